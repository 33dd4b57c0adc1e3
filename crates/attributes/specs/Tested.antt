-- The test of a tally's numbers tells whether they are sound.
use Rattle.std.specs.Prelude.{◌≡◌, true, nat_le}
use Rattle.std.proofs.lemmas.Bool.{and_parts, and_from, leb-true, le-leb}
use Rattle.attributes.specs.declared.counts.Counts.{Counts}
use Rattle.attributes.specs.Counts.{Sound, sound}

pub sound_from : (x : Counts) → sound x ≡ true → Sound x
sound_from x h = let p = and_parts (nat_le x.n 50) (nat_le x.z x.n) h in (leb-true x.n 50 p.0, leb-true x.z x.n p.1)

pub sound_to : (x : Counts) → Sound x → sound x ≡ true
sound_to x h = and_from (nat_le x.n 50) (nat_le x.z x.n) (le-leb x.n 50 h.0) (le-leb x.z x.n h.1)
