-- The terminals that can be derived from a stack, defined without the machine; and a proof that the machine accepts
-- these lists and no others.
use Rattle.std.proofs.Common.{◌≡◌, ◌⊎◌, Bool, true, false, cond, not, ◌&&◌, ◌∙◌, sym, ap, subst, List, [], ◌∷◌, ◌++◌}
use Rattle.std.proofs.Common.{Option, Some, refl, inl, inr}
use Rattle.std.proofs.lemmas.Bool.{eqb-true, false_from_ne_true, or_left, or_right}
use Rattle.aadl_tree.specs.Terminals.{PlainTerminal}
use Rattle.aadl_grammar.specs.proof.GrammarSymbols.{Class, Symbol, Row}
use Rattle.aadl_grammar.specs.proof.ParseTable.{rows, can_omit}
use Rattle.aadl_grammar.specs.proof.StackMachine.{Stack, Move, takes, omitted, refuses, class_number, kind_number, fits}
use Rattle.aadl_grammar.specs.proof.StackMachine.{move_by, move, chosen, stack_after, ends}
use Rattle.aadl_grammar.proofs.DerivationTrees.ForbiddenFollowers.{among, firsts, first_of, forbidden_after, distinct}
use Rattle.aadl_grammar.proofs.DerivationTrees.ForbiddenFollowers.{rows_settled, distinct_firsts, settled, settled_rows}
use Rattle.aadl_grammar.proofs.DerivationTrees.ForbiddenFollowerMembership.{among_left, among_right, Clear}
use Rattle.aadl_grammar.proofs.DerivationTrees.ForbiddenFollowerMembership.{firsts_in_tail, clear_behind}
use Rattle.std.specs.Cmp.{first_so, second_so}
use Rattle.std.proofs.lemmas.Option.{same_Some}
use Rattle.aadl_grammar.proofs.KeywordListMembership.{not_both}

-- the row is in the list
abbrev pub Member : Row → List Row → Type 0
Member r [] = ⊥
Member r (x ∷ rs) = (r ≡ x) ⊎ Member r rs

-- the terminals can be derived from the stack
pub data Derives : Stack → List PlainTerminal → Type 0 where
  nothing : Derives [] []
  take : (x : Symbol) (below : Stack) (r : Row) (kind : PlainTerminal) (ks : List PlainTerminal) → Member r (rows x)
      → fits r.first kind ≡ true → Derives (r.wanted ++ below) ks → Derives (x ∷ below) (kind ∷ ks)
  omit : (x : Symbol) (below : Stack) (ks : List PlainTerminal) → can_omit x ≡ true → Derives below ks
      → Derives (x ∷ below) ks

pub member_first : (r : Row) (rs : List Row) (kind : PlainTerminal) → Member r rs → fits r.first kind ≡ true
    → among (kind_number kind) (firsts rs) ≡ true
member_first r [] kind m e = absurd m
member_first r (x ∷ rs) kind (inl m) e = or_left _ _ (ap (λ (q : Row). fits q.first kind) (sym m) ∙ e)
member_first r (x ∷ rs) kind (inr m) e = or_right (fits x.first kind) _ (member_first r rs kind m e)

-- a derivation begins as the stack does
pub begins : (wanted : Stack) (kind : PlainTerminal) (ks : List PlainTerminal) → Derives wanted (kind ∷ ks)
    → among (kind_number kind) (first_of wanted) ≡ true
begins [] kind ks d = elim d [ ]
begins (x ∷ below) kind ks (take _ _ r _ _ m e d) =
    among_left (kind_number kind) (firsts (rows x)) _ (member_first r (rows x) kind m e)
begins (x ∷ below) kind ks (omit _ _ _ o d) =
    among_right (kind_number kind) (firsts (rows x)) _
    (ap (λ b. among (kind_number kind) (cond b (first_of below) [])) o ∙ begins below kind ks d)

row_settled : (outer : List Class) (r : Row) (rs : List Row) → Member r rs → rows_settled outer rs ≡ true
    → settled outer r.wanted ≡ true
row_settled outer r [] m e = absurd m
row_settled outer r (x ∷ rs) (inl m) e = ap (λ (q : Row). settled outer q.wanted) m ∙ first_so _ _ e
row_settled outer r (x ∷ rs) (inr m) e = row_settled outer r rs m (second_so (settled outer x.wanted) _ e)

pub clear_taken : (x : Symbol) (below : Stack) (r : Row) → Member r (rows x) → Clear (x ∷ below)
    → Clear (r.wanted ++ below)
clear_taken x below r m (h, c) =
    clear_behind (forbidden_after x) r.wanted below (row_settled (forbidden_after x) r (rows x) m (settled_rows x)) h c

-- a row that fits a terminal determines the move, since its class is in no other row
move_else : (r : Row) (rs : List Row) (b c : Bool) (kind : PlainTerminal) → fits r.first kind ≡ c → c ≡ false
    → move_by (r ∷ rs) b kind ≡ move_by rs b kind
move_else r rs b c kind e h = ap (λ z. cond z (takes r.wanted) (move_by rs b kind)) (e ∙ h)

clash : (c : Class) (kind : PlainTerminal) (cs : List Class) → not (among (class_number c) cs) ≡ true
    → among (kind_number kind) cs ≡ true → fits c kind ≡ true → ⊥
clash c kind cs n a e =
    not_both (among (class_number c) cs) n
    (ap (λ x. among x cs) (sym (eqb-true (kind_number kind) (class_number c) e)) ∙ a)

pub move_is : (r : Row) (rs : List Row) (b : Bool) (kind : PlainTerminal) → Member r rs → fits r.first kind ≡ true
    → distinct (firsts rs) ≡ true → move_by rs b kind ≡ takes r.wanted
move_is r [] b kind m e d = absurd m
move_is r (x ∷ rs) b kind (inl m) e d =
    ap (λ z. cond z (takes x.wanted) (move_by rs b kind)) (ap (λ (q : Row). fits q.first kind) (sym m) ∙ e)
    ∙ ap (λ (q : Row). takes q.wanted) (sym m)
move_is r (x ∷ rs) b kind (inr m) e d =
    ap (λ z. cond z (takes x.wanted) (move_by rs b kind))
    (false_from_ne_true (fits x.first kind)
    (clash x.first kind (firsts rs) (first_so _ _ d) (member_first r rs kind m e)))
    ∙ move_is r rs b kind m e (second_so (not (among (class_number x.first) (firsts rs))) _ d)

pub move_takes : (x : Symbol) (r : Row) (kind : PlainTerminal) → Member r (rows x) → fits r.first kind ≡ true
    → move x kind ≡ takes r.wanted
unfolding move
move_takes x r kind m e = move_is r (rows x) (can_omit x) kind m e (distinct_firsts x)

none_fits : (rs : List Row) (b : Bool) (kind : PlainTerminal) → (among (kind_number kind) (firsts rs) ≡ true → ⊥)
    → move_by rs b kind ≡ cond b omitted refuses
none_fits [] b kind never = refl
none_fits (r ∷ rs) b kind never =
    ap (λ z. cond z (takes r.wanted) (move_by rs b kind))
    (false_from_ne_true (fits r.first kind) (λ e. never (or_left _ _ e)))
    ∙ none_fits rs b kind (λ e. never (or_right (fits r.first kind) _ e))

pub move_omits : (x : Symbol) (kind : PlainTerminal) → can_omit x ≡ true
    → (among (kind_number kind) (firsts (rows x)) ≡ true → ⊥) → move x kind ≡ omitted
unfolding move
move_omits x kind o never = none_fits (rows x) (can_omit x) kind never ∙ ap (λ b. cond b omitted refuses) o

pub move_refuses : (x : Symbol) (kind : PlainTerminal) → can_omit x ≡ false
    → (among (kind_number kind) (firsts (rows x)) ≡ true → ⊥) → move x kind ≡ refuses
unfolding move
move_refuses x kind o never = none_fits (rows x) (can_omit x) kind never ∙ ap (λ b. cond b omitted refuses) o

-- how the machine continues
pub record Steps (wanted : Stack) (kind : PlainTerminal) (ks : List PlainTerminal) : Type 0 where
  pub next : Stack
  pub stepped : stack_after wanted kind ≡ Some next
  pub derived : Derives next ks
  pub clear : Clear next

-- The machine takes the terminals of a derivation.
pub steps : (wanted : Stack) (kind : PlainTerminal) (ks : List PlainTerminal) → Clear wanted
    → Derives wanted (kind ∷ ks)
    → Steps wanted kind ks
unfolding stack_after
steps [] kind ks c d = elim d [ ]
steps (x ∷ below) kind ks c (take _ _ r _ _ m e d) =
    record {
      next = r.wanted ++ below;
      stepped = ap (λ y. chosen y below (stack_after below kind)) (move_takes x r kind m e);
      derived = d;
      clear = clear_taken x below r m c;
    }
steps (x ∷ below) kind ks (h, c) (omit _ _ _ o d) =
    let more = steps below kind ks c d in
    let left =
    move_omits x kind o (λ e.
    h (kind_number kind) (begins below kind ks d) (firsts_in_tail x o (kind_number kind) e)) in
    record {
      next = more.next;
      stepped = ap (λ y. chosen y below (stack_after below kind)) left ∙ more.stepped;
      derived = more.derived;
      clear = more.clear;
    }

pub derived_ends : (wanted : Stack) → Derives wanted [] → ends wanted ≡ true
unfolding ends
derived_ends [] nothing = refl
derived_ends (x ∷ below) (omit _ _ _ o d) = ap (λ b. b && ends below) o ∙ derived_ends below d

pub ends_derived : (wanted : Stack) → ends wanted ≡ true → Derives wanted []
unfolding ends
ends_derived [] e = nothing
ends_derived (x ∷ below) e = omit x below [] (first_so _ _ e) (ends_derived below (second_so (can_omit x) _ e))

-- And the rest can be derived from the next stack.
abbrev pub Goes : List Row → Bool → PlainTerminal → Move → Type 0
Goes rs b kind (takes f) = (r : Row) × Member r rs × (fits r.first kind ≡ true) × (r.wanted ≡ f)
Goes rs b kind omitted = b ≡ true
Goes rs b kind refuses = Unit {0}

goes_end : (b : Bool) (kind : PlainTerminal) → Goes [] b kind (cond b omitted refuses)
goes_end true kind = refl
goes_end false kind = tt

goes_later : (x : Row) (rs : List Row) (b : Bool) (kind : PlainTerminal) (y : Move) → Goes rs b kind y
    → Goes (x ∷ rs) b kind y
goes_later x rs b kind (takes f) (r, m, e, w) = (r, inr m, e, w)
goes_later x rs b kind omitted g = g
goes_later x rs b kind refuses g = tt

goes_by : (x : Row) (rs : List Row) (b : Bool) (kind : PlainTerminal) → Goes rs b kind (move_by rs b kind) → (z : Bool)
    → fits x.first kind ≡ z → Goes (x ∷ rs) b kind (cond z (takes x.wanted) (move_by rs b kind))
goes_by x rs b kind g true e = (x, inl refl, e, refl)
goes_by x rs b kind g false e = goes_later x rs b kind (move_by rs b kind) g

pub goes : (rs : List Row) (b : Bool) (kind : PlainTerminal) → Goes rs b kind (move_by rs b kind)
goes [] b kind = goes_end b kind
goes (x ∷ rs) b kind = goes_by x rs b kind (goes rs b kind) (fits x.first kind) refl

by_move : (x : Symbol) (below next : Stack) (kind : PlainTerminal) (ks : List PlainTerminal) (y : Move)
    (later : Option Stack)
    → Goes (rows x) (can_omit x) kind y → (later ≡ Some next → Derives below (kind ∷ ks))
    → chosen y below later ≡ Some next → Derives next ks → Derives (x ∷ below) (kind ∷ ks)
by_move x below next kind ks (takes f) later (r, m, e, w) go h d =
    take x below r kind ks m e
    (subst (λ (z : Stack). Derives z ks) (sym (ap (λ z. z ++ below) w ∙ same_Some (f ++ below) next h)) d)
by_move x below next kind ks omitted later o go h d = omit x below (kind ∷ ks) o (go h)
by_move x below next kind ks refuses later g go h d = absurd cc

pub step_derives : (wanted next : Stack) (kind : PlainTerminal) (ks : List PlainTerminal)
    → stack_after wanted kind ≡ Some next → Derives next ks
    → Derives wanted (kind ∷ ks)
unfolding stack_after move
step_derives [] next kind ks e d = absurd cc
step_derives (x ∷ below) next kind ks e d =
    by_move x below next kind ks (move x kind) (stack_after below kind) (goes (rows x) (can_omit x) kind)
    (λ h. step_derives below next kind ks h d) e d
