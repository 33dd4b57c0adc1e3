-- How many readings may be planned for a sample.
use Rattle.std.specs.Prelude.{Bool, ◌&&◌, ℤ, pos, int_le}

-- a planned number is 1 to 50
abbrev pub planned : ℤ → Bool
planned n = int_le (pos 1) n && int_le n (pos 50)
