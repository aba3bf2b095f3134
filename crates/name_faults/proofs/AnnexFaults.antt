-- For `check_behaviours`: the findings at the annexes of an implementation, one annex after another.
use Rattle.std.proofs.Common.{◌≡◌, ℕ, ◌+◌, ◌<◌, ◌≤◌, Bool, true, false, List, [], ◌∷◌, ◌++◌, length, drop, get_or, map}
use Rattle.std.proofs.Common.{Option, refl, sym, ap, ◌∙◌}
use Rattle.std.proofs.lemmas.List.{drop_all}
use Rattle.list_lemmas.proofs.ListOperations.{drop-next}
use Rattle.aadl_tree.specs.Names.{Identifier}
use Rattle.aadl_tree.specs.Annexes.{AnnexTree, AnnexContent, foreign, behaviour, Annex}
use Rattle.aadl_tree.specs.Declarations.{Implementation, PackageTree}
use Rattle.aadl_names.specs.declared.fault.PackageFault.{PackageFault}
use Rattle.aadl_names.specs.declared.fault.PackageFault.TheVariants.{WrongKind}
use Rattle.aadl_names.specs.BehaviourAnnexes.{behaviours}
use Rattle.aadl_names.specs.proof.FirstFaultSoFar.{found}
use Rattle.aadl_names.specs.NameResolution.{is_thread}
use Rattle.aadl_names.specs.PackageNameFaults.{behaviour_faults, annex_faults}
use Rattle.aadl_names.proofs.FirstFaultSoFar.{found_append}
use Rattle.name_faults.specs.proof.AnnexFaults.{annex_uses, still_expected, behaviours_left}

-- each remaining behaviour is one too many
all_left : (tree : PackageTree ℕ) (x : Implementation ℕ) (bs : List (ℕ × AnnexTree ℕ))
    → behaviours_left tree x false bs ≡ map (λ c. WrongKind c.0) bs
all_left tree x [] = refl
all_left tree x (b ∷ bs) = refl

step_by : (tree : PackageTree ℕ) (x : Implementation ℕ) (expected : Bool) (at : ℕ) (language : Identifier ℕ)
    (content : AnnexContent ℕ)
    (annexes : List (Annex ℕ))
    → behaviours_left tree x expected
    (behaviours (record { at = at; language = language; content = content } ∷ annexes))
    ≡ annex_uses tree x expected (record { at = at; language = language; content = content })
    ++ behaviours_left tree x (still_expected expected (record { at = at; language = language; content = content }))
    (behaviours annexes)
step_by tree x expected at language (foreign bytes) annexes = refl
step_by tree x true at language (behaviour b) annexes =
    ap (λ fs. behaviour_faults tree x b ++ fs) (sym (all_left tree x (behaviours annexes)))
step_by tree x false at language (behaviour b) annexes =
    ap (λ fs. WrongKind at ∷ fs) (sym (all_left tree x (behaviours annexes)))

step : (tree : PackageTree ℕ) (x : Implementation ℕ) (expected : Bool) (a : Annex ℕ) (annexes : List (Annex ℕ))
    → behaviours_left tree x expected (behaviours (a ∷ annexes)) ≡ annex_uses tree x expected a
    ++ behaviours_left tree x (still_expected expected a) (behaviours annexes)
step tree x expected a annexes = step_by tree x expected a.at a.language a.content annexes

pub next_annex : {A : Type 0} (view : A → Annex ℕ) (tree : PackageTree ℕ) (x : Implementation ℕ) (items : List A)
    (i : ℕ) (a : A) (expected still : Bool)
    (whole before after : (Option PackageFault)) → i < length items → a ≡ get_or items i a
    → whole ≡ found before (behaviours_left tree x expected (behaviours (map view (drop i items))))
    → after ≡ found before (annex_uses tree x expected (view a)) → still ≡ still_expected expected (view a)
    → whole ≡ found after (behaviours_left tree x still (behaviours (map view (drop (i + 1) items))))
next_annex view tree x items i a expected still whole before after within is left more flag =
    left ∙ (ap (λ l. found before (behaviours_left tree x expected (behaviours (map view l))))
    (drop-next items i a within is)
    ∙ (ap (found before) (step tree x expected (view a) (map view (drop (i + 1) items)))
    ∙ (found_append before (annex_uses tree x expected (view a))
    (behaviours_left tree x (still_expected expected (view a)) (behaviours (map view (drop (i + 1) items))))
    ∙ (ap (λ o. found o (behaviours_left tree x (still_expected expected (view a))
    (behaviours (map view (drop (i + 1) items))))) (sym more)
    ∙ ap (λ e. found after (behaviours_left tree x e (behaviours (map view (drop (i + 1) items))))) (sym flag)))))

pub as_annexes : (tree : PackageTree ℕ) (x : Implementation ℕ) (bs : List (ℕ × AnnexTree ℕ))
    → behaviours_left tree x (is_thread x.category) bs ≡ annex_faults tree x bs
as_annexes tree x [] = refl
as_annexes tree x (b ∷ bs) = refl

pub last_annex : {A : Type 0} (view : A → Annex ℕ) (tree : PackageTree ℕ) (x : Implementation ℕ) (items : List A)
    (i : ℕ) (expected : Bool)
    (whole now : (Option PackageFault)) → length items ≤ i
    → whole ≡ found now (behaviours_left tree x expected (behaviours (map view (drop i items)))) → now ≡ whole
last_annex view tree x items i expected whole now past left = sym
    (left ∙ ap (λ l. found now (behaviours_left tree x expected (behaviours (map view l)))) (drop_all i items past))
