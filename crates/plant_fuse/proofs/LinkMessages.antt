-- The message of each link is cut from the values that its source's steps left on the out port in the round.
use Rattle.std.proofs.Common.{◌≡◌, ◌∙◌, ℕ, ◌<◌, List, Bool, length, map, slice_index_or, refl, sym, ap, ap₂}
use Rattle.std.proofs.lemmas.Option.{slice_get_read}
use Rattle.std.proofs.lemmas.List.{get_or-map}
use Rattle.pals_base.specs.declared.basic_types.PortValue.{PortValue}
use Rattle.pals_base.specs.Tuples.{column, cut}
use Rattle.pals_model.specs.declared.design.Link.{Link}
use Rattle.pals_runs.specs.declared.plant_pairs.Pair.{Pair}
use Rattle.sync_product.specs.declared.component_stage.Stage.{Stage}
use Rattle.plant_fuse.specs.proof.PartnersAndPairLinks.{partner_of, is_inside}
use Rattle.plant_fuse.specs.proof.Messages.{sent_count, sent_from, sent_on}

-- what a link's message has to be
pub sent_item : (pairs : List Pair) (stages : List Stage) (links : List Link) (number : ℕ) (d : Link)
    (rows : List (List PortValue)) (stage : Stage) (message : List PortValue) (inside : Bool) (count : ℕ)
    → number < length links → (slice_index_or links number d).source.0 < length stages
    → stage ≡ slice_index_or stages (slice_index_or links number d).source.0 stage → rows ≡ stage.rows
    → inside ≡ is_inside (partner_of pairs (slice_index_or links number d).source.0) (slice_index_or links number d)
    → count ≡ sent_count inside stage
    → message ≡ cut count (column (slice_index_or links number d).out_port rows)
    → message ≡ slice_index_or (map (sent_on pairs stages) links) number message
sent_item pairs stages links number d rows stage message inside count within there stage_is rows_are inside_is
    count_is is =
    let link = slice_index_or links number d in
    is
    ∙ ap₂ (λ n rs. cut n (column link.out_port rs)) (count_is ∙ ap (λ b. sent_count b stage) inside_is) rows_are
    ∙ sym (ap (λ o. sent_from (is_inside (partner_of pairs link.source.0) link) o link.out_port)
    (slice_get_read stages (length stages) link.source.0 stage refl there stage_is))
    ∙ sym (get_or-map (sent_on pairs stages) links number d message within)
