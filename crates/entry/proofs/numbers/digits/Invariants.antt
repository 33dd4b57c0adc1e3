use Rattle.std.proofs.Common.{◌≡◌, ◌^◌, ◌<◌, drop}
use Rattle.entry.specs.Numbers.{digits_after}
use Rattle.entry.proofs.numbers.digits.Given as goal

abbrev pub invariant-loop-c : goal.invariant-loop-c
invariant-loop-c l = (digits_after 0 l.text ≡ digits_after l.n (drop l.c-index l.text)) × (l.n < 10 ^ l.c-index)
