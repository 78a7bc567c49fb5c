use Rattle.ref_space.proofs.Common.{arith, target_of}
use Rattle.ref_space.proofs.Common.{length-map, length-take-le, map-append, take, None}
use Rattle.std.proofs.lemmas.List.{take_more}
use Rattle.ref_space.proofs.table.Table.fields.Goals as goal

pub push-requires : goal.push-requires
push-requires g c =
    let size = length-map (take c.loop-field.field c.words_by-words.result) (target_of c.args.self.now) in
    let less = length-take-le c.loop-field.field c.words_by-words.result in
    grind (arith, size, less)

pub loop-field-preserved : goal.loop-field-preserved
loop-field-preserved g c =
    grind (
      arith,
      map-append,
      take_more c.words_by-words.result c.loop-field.field None
          (rw (← c.len-field-end.ensures.count) (omega (arith, c.loop-field-test.true))),
    )
