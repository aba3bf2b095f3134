use Rattle.std.proofs.Common.{◌≡◌, ◌∙◌, ◌<◌, ℕ, [], sym, ap, length, map, slice_index_or, arith, List}
use Rattle.std.proofs.lemmas.List.{length-set, length-map, get_or-map}
use Rattle.std.proofs.lemmas.List.Elements.{All-set}
use Rattle.list_lemmas.proofs.ListOperations.{filled_more, filled_all}
use Rattle.pals_base.specs.declared.basic_types.PortValue.{PortValue}
use Rattle.pals_base.specs.Tuples.{cut}
use Rattle.pals_base.proofs.ColumnsAndCutTuples.{length-cut}
use Rattle.pals_node.proofs.written_tuples.write_ports.Goals as goal

pub loop-at-preserved : goal.loop-at-preserved
loop-at-preserved c =
    let at = c.loop-at.at in
    let ports = c.args.ports.now in
    let from = c.args.from.now in
    let port : ℕ = slice_index_or ports at 0 in
    let f : ℕ → List PortValue = λ p. cut c.args.count (slice_index_or from p []) in
    let wanted = map f ports in
    let new = c.write_cut.new.to in
    let below : at < length ports = c.loop-at-test.true in
    let many : length wanted ≡ length ports = length-map ports f in
    let is : new ≡ f port = c.write_cut.ensures
    ∙ ap (cut c.args.count) (c.as_slice.ensures.value ∙ c.tuple_at-tuple.ensures) in
    let item : new ≡ slice_index_or wanted at new = is ∙ sym (get_or-map f ports at 0 new below) in
    let inside : port < length from = c.requires.ports at 0 below in
    let size : length new ≡ c.args.places = ap length is ∙ length-cut c.args.count (slice_index_or from port [])
    ∙ c.requires.from_places port [] inside in
    let len = c.loop-at.invariant.len in
    record {
      len = length-set c.loop-at.to at new ∙ len;
      places_are =
          All-set (λ (tuple : List PortValue). length tuple ≡ c.args.places) c.loop-at.to at new size
          c.loop-at.invariant.places_are;
      done = filled_more c.loop-at.to wanted at new (omega arith) (omega arith) item c.loop-at.invariant.done;
    }

pub returns : goal.returns
returns c =
    let f : ℕ → List PortValue = λ p. cut c.args.count (slice_index_or c.args.from.now p []) in
    let wanted = map f c.args.ports.now in
    let many : length wanted ≡ length c.args.ports.now = length-map c.args.ports.now f in
    let len = c.loop-at.invariant.len in
    filled_all c.loop-at.to wanted c.loop-at.at (omega arith) (omega arith) c.loop-at.invariant.done
