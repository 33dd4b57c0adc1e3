use Rattle.std.proofs.Common.{arith}
use Rattle.sheet.proofs.Places.{sound_place}
use Rattle.sheet.proofs.reader.Reader.span.Goals as goal

pub returns : goal.returns
returns c =
    let r = c.args.self.now in
    let p = sound_place r.sheet.now r.count r.next r.sound c.requires in
    record { start = c.span_at.ensures.start; end = c.span_at.ensures.end; within = omega (arith, p.2); placed = p.0 }
