-- For `first_behaviour`: the first behaviour among the annexes of an implementation, if there is one.
use Rattle.std.proofs.Common.{◌≡◌, ℕ, ◌+◌, ◌<◌, ◌≤◌, List, ◌∷◌, length, drop, get_or, map, Option, None, sym, ap, ◌∙◌}
use Rattle.std.proofs.lemmas.List.{drop_all}
use Rattle.list_lemmas.proofs.ListOperations.{drop-next}
use Rattle.aadl_tree.specs.declared.annex.AnnexContent as source_content
use Rattle.aadl_tree.specs.declared.annex.Annex.{Annex}
use Rattle.aadl_tree.specs.Annexes.{AnnexTree, AnnexContent}
use Rattle.aadl_tree.specs.Annexes as plain
use Rattle.aadl_tree.specs.proof.AnnexViews.{annex_view, content_view}
use Rattle.aadl_tree.specs.proof.NameViews.{identifier_view}
use Rattle.aadl_tree.specs.proof.PlaceMaps.{kept_place}
use Rattle.aadl_names.specs.BehaviourAnnexes.{behaviours, first_behaviour}

-- an annex with this content, and the annexes after it
abbrev first_with : Annex → AnnexContent ℕ → List (plain.Annex ℕ) → Option (AnnexTree ℕ)
first_with x content rest =
    first_behaviour (behaviours
    (record { at = x.at; language = identifier_view kept_place x.language; content = content } ∷ rest))

pub here_first : (items : List Annex) (i : ℕ) (x : Annex) (content : source_content.AnnexContent)
    (whole : (Option (AnnexTree ℕ))) → i < length items
    → x ≡ get_or items i x → x.content ≡ content
    → whole ≡ first_behaviour (behaviours (map (annex_view kept_place) (drop i items)))
    → whole ≡ first_with x (content_view kept_place content) (map (annex_view kept_place) (drop (i + 1) items))
here_first items i x content whole within is of left =
    left ∙ (ap (λ l. first_behaviour (behaviours (map (annex_view kept_place) l))) (drop-next items i x within is)
    ∙ ap (λ c. first_with x (content_view kept_place c) (map (annex_view kept_place) (drop (i + 1) items))) of)

-- after the last annex there is none
pub none_first : (items : List Annex) (i : ℕ) (whole : (Option (AnnexTree ℕ))) → length items ≤ i
    → whole ≡ first_behaviour (behaviours (map (annex_view kept_place) (drop i items))) → None ≡ whole
none_first items i whole past left =
    sym (left ∙ ap (λ l. first_behaviour (behaviours (map (annex_view kept_place) l))) (drop_all i items past))
