use Rattle.std.proofs.Common.{rules}
use Rattle.bench.proofs.Written.{sound_out}
use Rattle.bench.proofs.Bench.strike_page.Goals as goal

pub returns : goal.returns
returns g c = record {
  answer = search rules;
  row = search rules;
  sound = sound_out g.M.Method.stands c.args.pages.now c.take_out.new.pages c.in_ok-i.i c.blank.result c.take_out.ensures c.blank.ensures.sound;
}
