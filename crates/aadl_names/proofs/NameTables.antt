-- The value of a name in an ordered table of names: after a name is added or set, and in another spelling.
use Rattle.std.proofs.Common.{◌≡◌, ℕ, Bool, true, false, cond, not, List, [], ◌∷◌, ◌++◌, Option, Some, None, refl, sym}
use Rattle.std.proofs.Common.{ap, ◌∙◌}
use Rattle.aadl_tree.specs.Names.{same_name}
use Rattle.std.specs.Ordering.{is_eq, nat_cmp}
use Rattle.std.specs.Cmp.Lexicographic.{slice_cmp, nat_list_eq_equiv}
use Rattle.std.specs.Map.{lookup}
use Rattle.std.specs.Option.{option_or, is_some}
use Rattle.std.specs.Str.{bytes_eq}
use Rattle.std.proofs.lemmas.Bool.{true≢false, false≢true}
use Rattle.std.proofs.lemmas.Map.Text.{is_eq-slice_cmp}
use Rattle.std.proofs.lemmas.Slice.Eq.{bytes_eq-Decides}
use Rattle.list_lemmas.proofs.Options.{option_or-cond}
use Rattle.aadl_names.specs.proof.NameTables.{folded, value_of}

pub lookup-push : {K X : Type 0} (test : K → Bool) (es : List (K × X)) (e : K × X)
    → lookup test (es ++ e ∷ []) ≡ option_or (lookup test es) (cond (test e.0) (Some e.1) None)
lookup-push test [] e = refl
lookup-push test (f ∷ es) e =
    option_or-cond (test f.0) f.1 (lookup test es) _ (cond (test e.0) (Some e.1) None) (lookup-push test es e)

-- Equality by order is equality of bytes.
pub by_order : {X : Type 0} (es : List (List ℕ × X)) (q : List ℕ)
    → lookup (λ k. is_eq (slice_cmp nat_cmp q k)) es ≡ lookup (bytes_eq q) es
by_order es q = λ i. lookup (λ k. is_eq-slice_cmp q k i) es

pub at_key : {X : Type 0} (es : List (List ℕ × X)) (key name : List ℕ) → key ≡ folded name
    → lookup (λ k. is_eq (slice_cmp nat_cmp key k)) es ≡ value_of es name
at_key es key name is = by_order es key ∙ ap (λ (bs : List ℕ). lookup (bytes_eq bs) es) is

same_at : (key name other : List ℕ) → key ≡ folded name
    → is_eq (slice_cmp nat_cmp key (folded other)) ≡ same_name other name
same_at key name other is =
    is_eq-slice_cmp key (folded other)
    ∙ (nat_list_eq_equiv.symm key (folded other) ∙ ap (bytes_eq (folded other)) is)

-- A name that is set, whether the table has it or not.
pub value-set : {X : Type 0} (es new : List (List ℕ × X)) (key name : List ℕ) (value : X) → key ≡ folded name
    → ((q : List ℕ) → lookup (λ k. is_eq (slice_cmp nat_cmp q k)) new
    ≡ cond (is_eq (slice_cmp nat_cmp key q)) (Some value) (lookup (λ k. is_eq (slice_cmp nat_cmp q k)) es))
    → (other : List ℕ) → value_of new other ≡ cond (same_name other name) (Some value) (value_of es other)
value-set es new key name value is updates other =
    sym (by_order new (folded other)) ∙ (updates (folded other)
    ∙ (ap (λ b. cond b (Some value) (lookup (λ k. is_eq (slice_cmp nat_cmp (folded other) k)) es))
    (same_at key name other is)
    ∙ ap (cond (same_name other name) (Some value)) (by_order es (folded other))))

added_by : {X : Type 0} (b : Bool) (v : X) (o : Option X) → (b ≡ true → o ≡ None)
    → cond b (Some v) o ≡ option_or o (cond b (Some v) None)
added_by true v o h = sym (ap (λ p. option_or p (Some v)) (h refl))
added_by false v None h = refl
added_by false v (Some m) h = refl

-- Two spellings of one name.
pub value-same : {X : Type 0} (table : List (List ℕ × X)) (other name : List ℕ) → same_name other name ≡ true
    → value_of table other ≡ value_of table name
value-same table other name s =
    ap (λ (bs : List ℕ). lookup (λ key. bytes_eq bs key) table) ((bytes_eq-Decides (folded other) (folded name)).0 s)

-- A name that the table did not have.
pub value-added : {X : Type 0} (es : List (List ℕ × X)) (name : List ℕ) (value : X) → value_of es name ≡ None
    → (other : List ℕ) → cond (same_name other name) (Some value) (value_of es other)
    ≡ option_or (value_of es other) (cond (same_name other name) (Some value) None)
value-added es name value none other =
    added_by (same_name other name) value (value_of es other) (λ s. value-same es other name s ∙ none)

-- A value in the table is not replaced.
pub kept_by : {X : Type 0} (a : Option X) (b : Bool) (n : X) → (b ≡ true → (m : X) × (a ≡ Some m))
    → a ≡ option_or a (cond b (Some n) None)
kept_by (Some m) b n h = refl
kept_by None true n h = let e = (h refl).1 in absurd (cc e)
kept_by None false n h = refl

-- The value that `get` found, by the result of `is_none`.
pub found_none : {B X : Type 0} (copied : Option B → Option X) (none_is : copied None ≡ None) (o : Option B)
    (g : Option X) (b : Bool) → is_some o ≡ not b
    → copied o ≡ g → b ≡ true → g ≡ None
found_none copied none_is None g b e c t = sym c ∙ none_is
found_none copied none_is (Some x) g b e c t = absurd (true≢false (e ∙ ap not t))

pub found_some : {B X : Type 0} (copied : Option B → Option X)
    (some_is : (b : B) → (m : X) × (copied (Some b) ≡ Some m)) (o : Option B) (g : Option X)
    (b : Bool) → is_some o ≡ not b → copied o ≡ g → b ≡ false → (m : X) × (g ≡ Some m)
found_some copied some_is None g b e c t = absurd (false≢true (e ∙ ap not t))
found_some copied some_is (Some x) g b e c t = ((some_is x).0, sym c ∙ (some_is x).1)

pub value-kept : {X : Type 0} (table : List (List ℕ × X)) (name : List ℕ) (value m : X) → value_of table name ≡ Some m
    → (other : List ℕ) → value_of table other
    ≡ option_or (value_of table other) (cond (same_name other name) (Some value) None)
value-kept table name value m there other =
    kept_by (value_of table other) (same_name other name) value
    (λ s. (m, value-same table other name s ∙ there))
