use Rattle.std.proofs.Common.{◌≡◌, ◌≢◌, ◌∙◌, inl, inr, List, length, slice_get, slice_index_or, sym, ap, subst, arith}
use Rattle.std.proofs.lemmas.Bool.{cases_lt}
use Rattle.std.proofs.lemmas.Option.{slice_get-get_or, slice_get_within, same_Some}
use Rattle.pals_runs.specs.declared.plant_pairs.Pair.{Pair}
use Rattle.sync_product.specs.proof.Rounds.{frames_of}
use Rattle.plant_fuse.specs.proof.RoundWork.{IsRun}
use Rattle.plant_fuse.proofs.PartnersAndPairLinks.{none_apart, pair_at, others_apart}
use Rattle.plant_fuse.proofs.RoundWork.{run_stays, stepped_stays}
use Rattle.plant_fuse.proofs.round.run_all.Goals as goal

abbrev no_pair : Pair
no_pair = record { plant = record { 0 = 0 }; controller = record { 0 = 0 } }

pub run_pair-requires-clause-pair : goal.run_pair-requires-clause-pair
run_pair-requires-clause-pair c =
    let pairs = c.args.tables.now.pairs in
    let items = c.as_slice-pair-items.result.now in
    let at =
    ap (λ (l : List Pair). slice_get l c.loop-pair.pair-index) (sym c.as_slice-pair-items.ensures.value)
    ∙ slice_get-get_or items c.loop-pair.pair-index _ c.loop-pair-test.true in
    pair_at c.args.round.design.now pairs c.requires.pairs c.loop-pair.pair-index _ at

pub loop-pair-preserved : goal.loop-pair-preserved
loop-pair-preserved c =
    let round = c.args.round in
    let design = round.design.now in
    let frames = frames_of c.args.parts.now in
    let pairs = c.args.tables.now.pairs in
    let items = c.as_slice-pair-items.result.now in
    let index = c.loop-pair.pair-index in
    let pair = slice_index_or items index no_pair in
    let next = c.loop-pair.next in
    let next' = c.run_pair.new.next in
    let stages = c.loop-pair.stages.items in
    let stages' = c.run_pair.new.stages.items in
    let at =
    ap (λ (l : List Pair). slice_get l index) (sym c.as_slice-pair-items.ensures.value)
    ∙ slice_get-get_or items index no_pair c.loop-pair-test.true in
    let done = c.in_ok-run_pair.ensures in
    record {
      alone = λ node d none is_d.
          (let apart = none_apart pairs node index pair none at in
          stepped_stays round frames next next' stages stages' pair.plant.0 pair.controller.0 node d done.others
          (λ same. apart.0 (sym same)) (λ same. apart.1 (sym same)) (c.loop-pair.invariant.alone node d none is_d));
      together = λ k other below is_other.
          elim (cases_lt k index) [
            | inl before ↦ (
                let differ : k ≢ index = λ same. omega (arith, same, before) in
                let apart = others_apart design pairs c.requires.pairs k index other pair differ is_other at in
                run_stays round frames next next' stages stages' pair.plant.0 pair.controller.0 other done.others
                apart.plants apart.first apart.second apart.controllers
                (c.loop-pair.invariant.together k other before is_other))
            | inr not_before ↦ (
                let here : k ≡ index = omega (arith, below, not_before) in
                let one : pair ≡ other = same_Some pair other (sym at ∙ ap (slice_get pairs) (sym here) ∙ is_other) in
                subst (IsRun round frames next' stages') one done.run)
          ];
      parts = done.parts ∙ c.loop-pair.invariant.parts;
      stages = done.stages ∙ c.loop-pair.invariant.stages;
    }

pub returns-clause-run : goal.returns-clause-run
returns-clause-run c = record {
  alone = c.loop-pair.invariant.alone;
  together = λ k pair is.
      c.loop-pair.invariant.together k pair
      (let within = slice_get_within c.args.tables.now.pairs k pair is in
      let same = ap length c.as_slice-pair-items.ensures.value in omega (arith, within, same)) is;
}
