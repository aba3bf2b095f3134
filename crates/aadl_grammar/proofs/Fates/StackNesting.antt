-- The stack determines how deep the terminals nest.
use Rattle.std.proofs.Common.{◌≡◌, ℕ, ◌+◌, ◌-◌, Bool, true, false, cond, not, ◌||◌, ◌==◌, ◌∙◌, sym, ap, subst, refl}
use Rattle.std.proofs.Common.{List, [], ◌∷◌, ◌++◌, Option, Some, inl, inr, arith}
use Rattle.std.proofs.lemmas.Bool.{eqb-true, and_from, false_from_ne_true, or_cases}
use Rattle.aadl_tree.specs.declared.mark.Mark.TheVariants as k
use Rattle.aadl_tree.specs.Terminals.{PlainTerminal, mark}
use Rattle.aadl_tree.specs.PackagesBehavioursAndNesting.{opened, is_end}
use Rattle.aadl_grammar.specs.proof.GrammarSymbols.{the, Symbol, Row}
use Rattle.aadl_grammar.specs.proof.GrammarSymbols as s
use Rattle.aadl_grammar.specs.proof.ParseTable.{rows, can_omit}
use Rattle.aadl_grammar.specs.proof.StackMachine.{Stack, Move, takes, omitted, refuses, class_number, kind_number, fits}
use Rattle.aadl_grammar.specs.proof.StackMachine.{move, chosen, stack_after, closes, depth}
use Rattle.aadl_grammar.proofs.DerivationTrees.ForbiddenFollowers.{among, firsts}
use Rattle.aadl_grammar.proofs.DerivationTrees.DerivationsAndMachineSteps.{Member, Goes, goes, member_first}
use Rattle.aadl_grammar.proofs.DerivationTrees.TerminalContents.{HasContent, said}
use Rattle.aadl_grammar.proofs.Fates.ProductionNesting.{openers, closers, shift, shift_is, end_is, opened_same, closing}
use Rattle.aadl_grammar.proofs.Fates.ProductionNesting.{is_never_stacked, plain, begins_without_if, closing_first, good}
use Rattle.aadl_grammar.proofs.Fates.ProductionNesting.{changes, row_shifts}
use Rattle.aadl_grammar.proofs.Fates.ProductionNesting.{rows_shift, rows_shifted, omits_close_nothing}
use Rattle.std.specs.Cmp.{first_so, second_so}
use Rattle.std.proofs.lemmas.Option.{same_Some}
use Rattle.aadl_grammar.proofs.KeywordListMembership.{not_both}

abbrev pub Good : Bool → Stack → Type 0
Good ended wanted = good ended wanted ≡ true

pub depth_append : (f below : Stack) → depth (f ++ below) ≡ depth f + depth below
unfolding depth
depth_append [] below = omega arith
depth_append (x ∷ f) below = let e = depth_append f below in omega arith

plain_append : (f below : Stack) → plain f ≡ true → plain below ≡ true → plain (f ++ below) ≡ true
plain_append [] below e h = h
plain_append (x ∷ f) below e h =
    and_from (not (is_never_stacked x)) _ (first_so _ _ e)
    (plain_append f below (second_so (not (is_never_stacked x)) _ e) h)

good_append : (ended : Bool) (f below : Stack) → good ended f ≡ true → plain below ≡ true
    → good ended (f ++ below) ≡ true
good_append false f below e h = plain_append f below e h
good_append true [] below e h = cc
good_append true (x ∷ f) below e h =
    and_from (closing x || begins_without_if x) _ (first_so _ _ e)
    (plain_append f below (second_so (closing x || begins_without_if x) _ e) h)

shift_by : (outer x before behind rest : ℕ) (a b : Bool)
    → cond a (behind == before + 1) (cond b (behind + 1 == before) (behind == before)) ≡ true
    → cond a (outer + (before + rest) + 1) (cond b (outer + (before + rest) - 1) (outer + (before + rest)))
    ≡ outer + (behind + rest)
shift_by outer x before behind rest true b e = let h = eqb-true behind (before + 1) e in omega arith
shift_by outer x before behind rest false true e = let h = eqb-true (behind + 1) before e in omega arith
shift_by outer x before behind rest false false e = let h = eqb-true behind before e in omega arith

pub record Moved (outer : ℕ) (wanted next : Stack) (ended : Bool) (kind : PlainTerminal) : Type 0 where
  pub after : Good (is_end kind) next
  pub counts : opened (outer + depth wanted) ended kind ≡ outer + depth next

row_of : (x : Symbol) (r : Row) (rs : List Row) → Member r rs → rows_shift x rs ≡ true → row_shifts x r ≡ true
unfolding depth
row_of x r [] m e = absurd m
row_of x r (q ∷ rs) (inl m) e = ap (row_shifts x) m ∙ first_so _ _ e
row_of x r (q ∷ rs) (inr m) e = row_of x r rs m (second_so (row_shifts x q) _ e)

or_else : (a b : Bool) → (a || b) ≡ true → not a ≡ true → b ≡ true
or_else true b e h = cc
or_else false b e h = e

-- a row of a symbol of a stack, not after `end`
row_moved : (outer : ℕ) (x : Symbol) (below : Stack) (r : Row) (kind : PlainTerminal) → not (is_never_stacked x) ≡ true
    → plain below ≡ true
    → Member r (rows x) → fits r.first kind ≡ true → Moved outer (x ∷ below) (r.wanted ++ below) false kind
unfolding depth
row_moved outer x below r kind n p m e =
    let row = row_of x r (rows x) m (or_else (is_never_stacked x) _ (rows_shifted x) n) in
    let number = eqb-true (kind_number kind) (class_number r.first) e in
    let ended : is_end kind ≡ (class_number r.first == class_number (the k.End)) = end_is kind
    ∙ ap (λ z. z == class_number (the k.End)) number in
    let changed = first_so (changes (class_number r.first) (closes x) (depth r.wanted)) _ row in
    let after = second_so (changes (class_number r.first) (closes x) (depth r.wanted)) _ row in
    record {
      after =
          ap (λ z. good z (r.wanted ++ below)) ended
          ∙ good_append (class_number r.first == class_number (the k.End)) r.wanted below after p;
      counts =
          shift_is (outer + depth (x ∷ below)) kind
          ∙ ap (shift (outer + depth (x ∷ below))) number
          ∙ shift_by outer (class_number r.first) (closes x) (depth r.wanted) (depth below)
          (among (class_number r.first) openers) (among (class_number r.first) closers) changed
          ∙ ap (λ z. outer + z) (sym (depth_append r.wanted below));
    }

-- not after `end`
by_move : (outer : ℕ) (x : Symbol) (below next : Stack) (kind : PlainTerminal) (y : Move) (later : Option Stack)
    → Goes (rows x) (can_omit x) kind y → not (is_never_stacked x) ≡ true → plain below ≡ true
    → (later ≡ Some next → Moved outer below next false kind) → chosen y below later ≡ Some next
    → Moved outer (x ∷ below) next false kind
unfolding depth
by_move outer x below next kind (takes f) later (r, m, e, w) n p go h =
    subst (λ (z : Stack). Moved outer (x ∷ below) z false kind) (ap (λ z. z ++ below) w ∙ same_Some (f ++ below) next h)
    (row_moved outer x below r kind n p m e)
by_move outer x below next kind omitted later o n p go h =
    let more = go h in
    let none = eqb-true (closes x) 0 (or_else (not (can_omit x)) _ (omits_close_nothing x) (ap (λ b. not (not b)) o)) in
    let same : depth (x ∷ below) ≡ depth below = ap (λ z. z + depth below) none ∙ omega arith in
    record { after = more.after; counts = ap (λ z. opened (outer + z) false kind) same ∙ more.counts }
by_move outer x below next kind refuses later g n p go h = absurd cc

step_moves : (outer : ℕ) (wanted next : Stack) (kind : PlainTerminal) → plain wanted ≡ true
    → stack_after wanted kind ≡ Some next
    → Moved outer wanted next false kind
unfolding stack_after move
step_moves outer [] next kind p e = absurd cc
step_moves outer (x ∷ below) next kind p e =
    let rest = second_so (not (is_never_stacked x)) _ p in
    by_move outer x below next kind (move x kind) (stack_after below kind) (goes (rows x) (can_omit x) kind)
    (first_so _ _ p)
    rest (λ h. step_moves outer below next kind rest h) e

-- After `end`.

closing_is : (x : Symbol) → closing x ≡ true → x ≡ s.closing_if
closing_is s.closing_if e = refl
closing_is s.identifier e = absurd cc
closing_is _ e = absurd cc

closing_row : (y : Move) (kind : PlainTerminal) (below next : Stack) (later : Option Stack)
    → Goes (rows s.closing_if) false kind y → chosen y below later ≡ Some next → (kind ≡ mark k.If) × (below ≡ next)
closing_row (takes f) kind below next later (r, inl m, e, w) h = (
  HasContent.whole (said (the k.If) kind (ap (λ (q : Row). fits q.first kind) (sym m) ∙ e)),
  ap (λ (q : Row). q.wanted ++ below) (sym m) ∙ ap (λ z. z ++ below) w ∙ same_Some (f ++ below) next h,
)
closing_row (takes f) kind below next later (r, inr m, e, w) h = absurd m
closing_row omitted kind below next later o h = cc
closing_row refuses kind below next later g h = absurd cc

closing_moves : (outer : ℕ) (below next : Stack) (kind : PlainTerminal) → plain below ≡ true
    → stack_after (s.closing_if ∷ below) kind ≡ Some next → Moved outer (s.closing_if ∷ below) next true kind
unfolding stack_after move depth
closing_moves outer below next kind p e =
    let r =
    closing_row (move s.closing_if kind) kind below next (stack_after below kind)
    (goes (rows s.closing_if) false kind) e in
    record {
      after = ap (λ z. good (is_end z) next) r.0 ∙ ap plain (sym r.1) ∙ p;
      counts =
          ap (opened (outer + depth (s.closing_if ∷ below)) true) r.0
          ∙ (let q : outer + (1 + depth below) - 1 ≡ outer + depth below = omega arith in q)
          ∙ ap (λ z. outer + depth z) r.1;
    }

blunt_move : (outer : ℕ) (x : Symbol) (below next : Stack) (kind : PlainTerminal) (y : Move) (later : Option Stack)
    → Goes (rows x) (can_omit x) kind y → begins_without_if x ≡ true → plain below ≡ true
    → chosen y below later ≡ Some next → Moved outer (x ∷ below) next true kind
blunt_move outer x below next kind (takes f) later (r, m, e, w) b p h =
    let rest = second_so (not (can_omit x)) _ b in
    let moved =
    row_moved outer x below r kind
    (second_so (not (among (class_number (the k.If)) (firsts (rows x)))) _ rest) p m e in
    let never = false_from_ne_true (kind_number kind == class_number (the k.If))
    (λ i. not_both (among (class_number (the k.If)) (firsts (rows x))) (first_so _ _ rest)
    (ap (λ z. among z (firsts (rows x))) (sym (eqb-true (kind_number kind) (class_number (the k.If)) i))
    ∙ member_first r (rows x) kind m e)) in
    let same : r.wanted ++ below ≡ next = ap (λ z. z ++ below) w ∙ same_Some (f ++ below) next h in
    subst (λ (z : Stack). Moved outer (x ∷ below) z true kind) same
    (record {
      after = moved.after;
      counts = opened_same (outer + depth (x ∷ below)) true kind never ∙ moved.counts;
    })
blunt_move outer x below next kind omitted later o b p h = absurd (not_both (can_omit x) (first_so _ _ b) o)
blunt_move outer x below next kind refuses later g b p h = absurd cc

ended_moves : (outer : ℕ) (wanted next : Stack) (kind : PlainTerminal) → closing_first wanted ≡ true
    → stack_after wanted kind ≡ Some next → Moved outer wanted next true kind
unfolding stack_after move
ended_moves outer [] next kind g e = absurd cc
ended_moves outer (x ∷ below) next kind g e =
    let p = second_so (closing x || begins_without_if x) _ g in
    elim (or_cases (closing x) (begins_without_if x) (first_so _ _ g)) [
      | inl i ↦ subst (λ (z : Symbol). Moved outer (z ∷ below) next true kind) (sym (closing_is x i))
          (closing_moves outer below next kind p (ap (λ z. stack_after (z ∷ below) kind) (sym (closing_is x i)) ∙ e))
      | inr i ↦ blunt_move outer x below next kind (move x kind) (stack_after below kind)
          (goes (rows x) (can_omit x) kind) i p e
    ]

-- a terminal changes the depth as it opens or closes
pub step_depth : (outer : ℕ) (wanted next : Stack) (kind : PlainTerminal) (ended : Bool) → Good ended wanted
    → stack_after wanted kind ≡ Some next → Moved outer wanted next ended kind
step_depth outer wanted next kind true g e = ended_moves outer wanted next kind g e
step_depth outer wanted next kind false g e = step_moves outer wanted next kind g e
