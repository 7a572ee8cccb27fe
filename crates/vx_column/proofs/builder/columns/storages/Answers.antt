use Rattle.std.proofs.Common.{ap}
use Rattle.vx_value.specs.Typed.{Typed}
use Rattle.vx_column.proofs.FieldColumnsLemmas.{each_more, stored_more}
use Rattle.vx_column.proofs.builder.columns.storages.Goals as goal

pub loop-scalar-preserved : goal.loop-scalar-preserved
loop-scalar-preserved c =
    let ss = c.args.scalars.now in
    let l = c.loop-scalar in
    let s = c.scalar-item.result in
    let made = c.in_ok-storage.ensures.ok in
    let pushed = c.in_ok-push.ensures.items in
    record {
      values = each_more (λ r. r.value) ss l.stored.items c.push.new.self.items l.scalar-index s c.in_ok-storage.field-0 l.invariant.values
          c.loop-scalar-test.true c.scalar-item.is (ap (λ (r : Typed). r.value) made) pushed;
      typed = λ id t all. stored_more id t ss l.stored.items c.push.new.self.items l.scalar-index s c.in_ok-storage.field-0 all (l.invariant.typed id t all)
          c.loop-scalar-test.true c.scalar-item.is (ap (λ (r : Typed). r.of_type) made) pushed;
    }
