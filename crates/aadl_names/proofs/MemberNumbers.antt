-- The loop that makes a table of the members of declarations: one turn, and the end.
use Rattle.std.proofs.Common.{◌≡◌, ℕ, ◌+◌, ◌<◌, List, [], ◌∷◌, ◌++◌, length, Some, refl, sym, ap, ◌∙◌, arith, map, take}
use Rattle.std.proofs.Common.{get_or, zero, suc, length-append, Result, Ok, Err, IfOk}
use Rattle.std.specs.Prelude.{slice_get}
use Rattle.std.proofs.lemmas.List.{length-map, length-take-le, map_more}
use Rattle.aadl_tree.specs.Declarations.{Declaration}
use Rattle.aadl_names.specs.proof.NameTables.{value_of}
use Rattle.aadl_names.specs.proof.MemberNumbers.{member_of}

-- ---- one more table of members
pub members-push : (ms : List (List (List ℕ × ℕ))) (m : List (List ℕ × ℕ)) (ds : List (Declaration ℕ))
    (d : Declaration ℕ) → length ms ≡ length ds
    → ((n : ℕ) (name : List ℕ) → value_of (get_or ms n []) name ≡ member_of (slice_get ds n) name)
    → ((name : List ℕ) → value_of m name ≡ member_of (Some d) name)
    → (n : ℕ) (name : List ℕ) → value_of (get_or (ms ++ m ∷ []) n []) name ≡ member_of (slice_get (ds ++ d ∷ []) n) name
members-push [] m [] d e old here zero name = here name
members-push [] m [] d e old here (suc n) name = refl
members-push [] m (c ∷ ds) d e old here n name = absurd (omega arith)
members-push (k ∷ ms) m [] d e old here n name = absurd (omega arith)
members-push (k ∷ ms) m (c ∷ ds) d e old here zero name = old zero name
members-push (k ∷ ms) m (c ∷ ds) d e old here (suc n) name =
    members-push ms m ds d (omega arith) (λ n name. old (suc n) name) here n name

pub pushed_count : {X : Type 0} (xs : List X) (x : X) (new : List X) (n : ℕ) → new ≡ xs ++ x ∷ [] → length xs ≡ n
    → length new ≡ n + 1
pushed_count xs x new n e h = ap length e ∙ (length-append xs (x ∷ []) ∙ ap (λ m. m + 1) h)

-- one turn of the loop over declarations
pub next_members : {A : Type 0} (view : A → Declaration ℕ) (items : List A) (i : ℕ) (x : A)
    (old new : List (List (List ℕ × ℕ))) (m : List (List ℕ × ℕ))
    → i < length items → x ≡ get_or items i x
    → length old ≡ i → new ≡ old ++ m ∷ [] → ((n : ℕ) (name : List ℕ)
    → value_of (get_or old n []) name ≡ member_of (slice_get (map view (take i items)) n) name)
    → ((name : List ℕ) → value_of m name ≡ member_of (Some (view x)) name) → (n : ℕ) (name : List ℕ)
    → value_of (get_or new n []) name ≡ member_of (slice_get (map view (take (i + 1) items)) n) name
next_members view items i x old new m within is count more so_far here n name =
    let grown : map view (take (i + 1) items) ≡ map view (take i items) ++ view x ∷ [] = map_more view items i x within
    ∙ ap (λ y. map view (take i items) ++ view y ∷ []) (sym is) in
    let size : length (map view (take i items)) ≡ i = simp length-map (length-take-le i items (omega arith)) in
    ap (λ (ms : List _). value_of (get_or ms n []) name) more
    ∙ (members-push old m (map view (take i items)) (view x) (count ∙ sym size) so_far here n name
    ∙ ap (λ (ds : List _). member_of (slice_get ds n) name) (sym grown))

pub ok_as : {T E : Type 0} (r : Result T E) (a b : T) → a ≡ b → IfOk r (λ x. x ≡ a) → IfOk r (λ x. x ≡ b)
ok_as (Ok x) a b e is = is ∙ e
ok_as (Err x) a b e is = tt
