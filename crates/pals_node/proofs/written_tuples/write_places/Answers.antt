use Rattle.std.proofs.Common.{◌≡◌, ◌∙◌, ◌+◌, ◌<◌, sym, ap, ap₂, subst, length, take, slice_index_or, arith, List}
use Rattle.std.specs.Prelude.{slice_set}
use Rattle.std.proofs.lemmas.List.{length-set}
use Rattle.std.proofs.lemmas.List.Elements.{All-set}
use Rattle.pals_base.specs.declared.basic_types.PortValue.{PortValue}
use Rattle.pals_base.specs.declared.basic_types.PortValue.TheVariants.{Absent}
use Rattle.pals_base.specs.Tuples.{with_places}
use Rattle.pals_node.proofs.TuplesSlotsAndZips.{places_more}
use Rattle.pals_node.proofs.written_tuples.write_places.Goals as goal

pub loop-port-preserved : goal.loop-port-preserved
loop-port-preserved c =
    let k = c.loop-port.port in
    let at = c.args.at in
    let values = c.args.values.now in
    let tuples = c.loop-port.tuples in
    let item = c.index_mut.result.now in
    let len : length tuples ≡ length values = c.loop-port.invariant.len in
    let below : k < length values = c.loop-port-test.true in
    let below' : k < length tuples = omega arith in
    let is =
    c.set.ensures ∙ ap₂ (λ (x : List PortValue) (v : PortValue). slice_set x at v) c.index_mut.ensures.value
    c.place.ensures in
    let size : length c.set.new.self ≡ length (slice_index_or tuples k item) = ap length is
    ∙ length-set (slice_index_or tuples k item) at (slice_index_or values k Absent) in
    let inside : at < length (slice_index_or tuples k item) = c.loop-port.invariant.within k item below' in
    record {
      len = length-set tuples k c.set.new.self ∙ len;
      within =
          All-set (λ (tuple : List PortValue). at < length tuple) tuples k c.set.new.self (omega arith)
          c.loop-port.invariant.within;
      done =
          ap (slice_set tuples k) is
          ∙ subst (λ ts. slice_set ts k (slice_set (slice_index_or ts k item) at (slice_index_or values k Absent))
          ≡ with_places at (take (k + 1) values) c.args.tuples.now) (sym c.loop-port.invariant.done)
          (places_more at k values c.args.tuples.now item Absent below c.requires.count);
    }
