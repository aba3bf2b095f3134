-- Terminals are a text of a language, fail, or exceed the nesting limit if and only if the machine reports this fate.
-- For the laws `fate_of_package` and `fate_of_behaviour`.
use Rattle.std.proofs.Common.{◌≡◌, ℕ, ◌+◌, ◌≤◌, Bool, true, false, ◌∙◌, sym, ap, subst, refl, List, [], ◌∷◌, ◌++◌, Some}
use Rattle.std.proofs.Common.{None, arith, append_assoc}
use Rattle.std.proofs.lemmas.List.{append-nil, map-append}
use Rattle.std.proofs.lemmas.Bool.{true≢false}
use Rattle.aadl_tree.specs.declared.nesting_limit.TheConstants.{GREATEST_NESTING}
use Rattle.aadl_tree.specs.declared.mark.Mark.TheVariants as k
use Rattle.aadl_tree.specs.Terminals.{PlainTerminal, word, whole, real, quoted, unread, mark, other, PlacedTerminal}
use Rattle.aadl_tree.specs.Terminals.{kinds_of}
use Rattle.aadl_tree.specs.PackagesBehavioursAndNesting.{opened, is_end, nesting_from, nesting, IsShallow}
use Rattle.aadl_tree.specs.TerminalFaults.{Begins, IsStuck, FailsAt, DeepAt}
use Rattle.aadl_grammar.specs.proof.StackMachine.{Stack, depth, Fate, finished, syntax_at, deep_at, fate}
use Rattle.aadl_grammar.proofs.DerivationTrees.ForbiddenFollowerMembership.{Clear}
use Rattle.aadl_grammar.proofs.DerivationTrees.DerivationsAndMachineSteps.{Derives, steps, derived_ends, ends_derived}
use Rattle.aadl_grammar.proofs.DerivationTrees.ProductiveStacks.{some_text}
use Rattle.aadl_grammar.proofs.Fates.StackNesting.{Good}
use Rattle.aadl_grammar.proofs.Fates.StackAfterTerminals.{stack_after_all, walk_front, walk_then, walk_derives}
use Rattle.aadl_grammar.proofs.Fates.StackAfterTerminals.{derived_left, walk_depth}
use Rattle.aadl_grammar.proofs.Fates.StackAfterTerminals.{Within}
use Rattle.aadl_grammar.proofs.Fates.FateRuns.{StopsBy, Stops, Deepens, Finishes, Tells, tells}

-- a language, given by the stack from which its texts are derived
pub record Language (IsText : List PlainTerminal → Type 0) (outer : ℕ) : Type 0 where
  pub start : Stack
  pub derived : (ks : List PlainTerminal) → IsText ks → Derives start ks
  pub text : (ks : List PlainTerminal) → Derives start ks → IsText ks
  pub clear : Clear start
  pub good : Good false start
  pub flat : depth start ≡ 0
  pub low : outer ≤ GREATEST_NESTING

pub low_start : (IsText : List PlainTerminal → Type 0) (outer : ℕ) (l : Language IsText outer)
    → outer + depth l.start ≤ GREATEST_NESTING
low_start IsText outer l = let e = l.flat in let h = l.low in omega arith

begins : (IsText : List PlainTerminal → Type 0) (outer : ℕ) (l : Language IsText outer) (ks : List PlainTerminal)
    (last : Stack)
    → stack_after_all l.start ks ≡ Some last → Begins IsText ks
begins IsText outer l ks last e =
    let more = some_text last in
    record {
      more = more.kinds;
      text = l.text (ks ++ more.kinds) (walk_derives ks l.start last more.kinds e more.derived);
    }

nothing_is_some : (a : Stack) → Some a ≡ None → ⊥
nothing_is_some a e = cc

stuck : (IsText : List PlainTerminal → Type 0) (outer : ℕ) (l : Language IsText outer) (seen : List PlainTerminal)
    (left : List PlacedTerminal)
    (last : Stack) → stack_after_all l.start seen ≡ Some last → StopsBy last left → IsStuck IsText seen left
stuck IsText outer l seen [] last e h = λ (text : IsText seen).
    let r =
    derived_left seen l.start last [] l.clear e
    (subst (λ (x : List PlainTerminal). Derives l.start x) (sym (append-nil seen)) (l.derived seen text)) in
    true≢false (sym (derived_ends last r.derived) ∙ h)
stuck IsText outer l seen (t ∷ ts) last e h = λ (b : Begins IsText (seen ++ t.kind ∷ [])).
    let d =
    subst (λ (x : List PlainTerminal). Derives l.start x) (append_assoc seen (t.kind ∷ []) b.more) (l.derived _ b.text)
    in
    let r = derived_left seen l.start last (t.kind ∷ b.more) l.clear e d in
    let s = steps last t.kind b.more r.clear r.derived in
    nothing_is_some s.next (sym s.stepped ∙ h)

nesting_is : (IsText : List PlainTerminal → Type 0) (outer : ℕ) (l : Language IsText outer) (ks : List PlainTerminal)
    (last : Stack)
    → stack_after_all l.start ks ≡ Some last → nesting outer ks ≡ outer + depth last
nesting_is IsText outer l ks last e =
    let zero : outer ≡ outer + depth l.start = (let f = l.flat in omega arith) in
    ap (λ n. nesting_from n false ks) zero ∙ walk_depth outer ks l.start last false l.good e

shallow : (IsText : List PlainTerminal → Type 0) (outer : ℕ) (l : Language IsText outer) (ks : List PlainTerminal)
    (last : Stack)
    → stack_after_all l.start ks ≡ Some last → Within outer l.start ks → IsShallow outer ks
shallow IsText outer l ks last e within front back same =
    let mid = walk_front front back l.start last (ap (stack_after_all l.start) (sym same) ∙ e) in
    let n = nesting_is IsText outer l front mid.0 mid.1 in
    let d = within front back mid.0 same mid.1 in
    omega arith

opened_most : (n : ℕ) (ended : Bool) (kind : PlainTerminal) → opened n ended kind ≤ n + 1
opened_most n true (word w) = omega arith
opened_most n true (whole w) = omega arith
opened_most n true (real w) = omega arith
opened_most n true (quoted w) = omega arith
opened_most n true (unread w) = omega arith
opened_most n true (other w) = omega arith
opened_most n true (mark k.If) = omega arith
opened_most n true (mark _) = omega arith
opened_most n false (word w) = omega arith
opened_most n false (whole w) = omega arith
opened_most n false (real w) = omega arith
opened_most n false (quoted w) = omega arith
opened_most n false (unread w) = omega arith
opened_most n false (other w) = omega arith
opened_most n false (mark k.If) = omega arith
opened_most n false (mark _) = omega arith

nesting_more : (ks : List PlainTerminal) (n : ℕ) (ended : Bool) (kind : PlainTerminal)
    → nesting_from n ended (ks ++ kind ∷ []) ≤ nesting_from n ended ks + 1
nesting_more [] n ended kind = opened_most n ended kind
nesting_more (x ∷ ks) n ended kind = nesting_more ks (opened n ended x) (is_end x) kind

pub stops_fail : (IsText : List PlainTerminal → Type 0) (outer end : ℕ) (l : Language IsText outer)
    (ts : List PlacedTerminal) (at : ℕ)
    → Stops outer end l.start ts at → FailsAt IsText outer end ts at
stops_fail IsText outer end l ts at r = record {
  seen = r.seen;
  left = r.left;
  whole = r.whole;
  place = r.place;
  begins = begins IsText outer l (kinds_of r.seen) r.last r.walked;
  stuck = stuck IsText outer l (kinds_of r.seen) r.left r.last r.walked r.stops;
  shallow = shallow IsText outer l (kinds_of r.seen) r.last r.walked r.within;
}

pub deepens_deep : (IsText : List PlainTerminal → Type 0) (outer end : ℕ) (l : Language IsText outer)
    (ts : List PlacedTerminal) (at : ℕ)
    → Deepens outer l.start ts at → DeepAt IsText outer ts at
deepens_deep IsText outer end l ts at r =
    let through = walk_then (kinds_of r.seen) l.start r.last r.after r.opener.kind r.walked r.stepped in
    let flat = shallow IsText outer l (kinds_of r.seen) r.last r.walked r.within in
    let before : nesting outer (kinds_of r.seen) ≤ GREATEST_NESTING = flat (kinds_of r.seen) [] (sym (append-nil _)) in
    let most = nesting_more (kinds_of r.seen) outer false r.opener.kind in
    let n = nesting_is IsText outer l (kinds_of r.seen ++ r.opener.kind ∷ []) r.after through in
    let d = r.deep in
    record {
      seen = r.seen;
      opener = r.opener;
      left = r.left;
      whole = r.whole;
      place = r.place;
      begins = begins IsText outer l (kinds_of r.seen ++ r.opener.kind ∷ []) r.after through;
      shallow = flat;
      deep = omega arith;
    }

pub finishes_text : (IsText : List PlainTerminal → Type 0) (outer : ℕ) (l : Language IsText outer)
    (ts : List PlacedTerminal)
    → Finishes outer l.start ts → IsText (kinds_of ts) × IsShallow outer (kinds_of ts)
finishes_text IsText outer l ts r =
    let d = walk_derives (kinds_of ts) l.start r.last [] r.walked (ends_derived r.last r.ended) in (
      l.text (kinds_of ts) (subst (λ (x : List PlainTerminal). Derives l.start x) (append-nil (kinds_of ts)) d),
      shallow IsText outer l (kinds_of ts) r.last r.walked r.within,
    )

-- The fates exclude one another.

text_from : (IsText : List PlainTerminal → Type 0) (ts seen : List PlacedTerminal) (t : PlacedTerminal)
    (left : List PlacedTerminal) → ts ≡ seen ++ t ∷ left
    → IsText (kinds_of ts) → Begins IsText (kinds_of seen ++ t.kind ∷ [])
text_from IsText ts seen t left e text = record {
  more = kinds_of left;
  text =
      subst IsText (ap kinds_of e ∙ map-append (λ (x : PlacedTerminal). x.kind) seen (t ∷ left)
      ∙ sym (append_assoc (kinds_of seen) (t.kind ∷ []) (kinds_of left))) text;
}

by_left : (IsText : List PlainTerminal → Type 0) (ts seen left : List PlacedTerminal) → ts ≡ seen ++ left
    → IsStuck IsText (kinds_of seen) left → IsText (kinds_of ts) → ⊥
by_left IsText ts seen [] e never text =
    never (subst (λ (x : List PlacedTerminal). IsText (kinds_of x)) (e ∙ append-nil seen) text)
by_left IsText ts seen (t ∷ left) e never text = never (text_from IsText ts seen t left e text)

pub fails_no_text : (IsText : List PlainTerminal → Type 0) (outer end : ℕ) (ts : List PlacedTerminal) (at : ℕ)
    → FailsAt IsText outer end ts at → IsText (kinds_of ts) → ⊥
fails_no_text IsText outer end ts at f text = by_left IsText ts f.seen f.left f.whole f.stuck text

pub deep_not_shallow : (IsText : List PlainTerminal → Type 0) (outer : ℕ) (ts : List PlacedTerminal) (at : ℕ)
    → DeepAt IsText outer ts at
    → IsShallow outer (kinds_of ts) → ⊥
deep_not_shallow IsText outer ts at d flat =
    let h = flat (kinds_of d.seen ++ d.opener.kind ∷ []) (kinds_of d.left)
    (ap kinds_of d.whole ∙ map-append (λ (x : PlacedTerminal). x.kind) d.seen (d.opener ∷ d.left)
    ∙ sym (append_assoc (kinds_of d.seen) (d.opener.kind ∷ []) (kinds_of d.left))) in
    let g = d.deep in
    absurd (omega arith)

finished_by : (IsText : List PlainTerminal → Type 0) (outer end : ℕ) (l : Language IsText outer)
    (ts : List PlacedTerminal)
    → IsText (kinds_of ts) → IsShallow outer (kinds_of ts) → (f : Fate) → Tells outer end l.start ts f → f ≡ finished
finished_by IsText outer end l ts text flat finished r = refl
finished_by IsText outer end l ts text flat (syntax_at at) r =
    absurd (fails_no_text IsText outer end ts at (stops_fail IsText outer end l ts at r) text)
finished_by IsText outer end l ts text flat (deep_at at) r =
    absurd (deep_not_shallow IsText outer ts at (deepens_deep IsText outer end l ts at r) flat)

pub text_finishes : (IsText : List PlainTerminal → Type 0) (outer end : ℕ) (l : Language IsText outer)
    (ts : List PlacedTerminal)
    → IsText (kinds_of ts) → IsShallow outer (kinds_of ts) → fate outer end l.start ts ≡ finished
text_finishes IsText outer end l ts text flat =
    finished_by IsText outer end l ts text flat (fate outer end l.start ts)
    (tells outer end ts l.start (low_start IsText outer l))

told : (outer end : ℕ) (start : Stack) (ts : List PlacedTerminal) (f : Fate) → outer + depth start ≤ GREATEST_NESTING
    → fate outer end start ts ≡ f → Tells outer end start ts f
told outer end start ts f h e = subst (λ (x : Fate). Tells outer end start ts x) e (tells outer end ts start h)

pub fails_at : (IsText : List PlainTerminal → Type 0) (outer end : ℕ) (l : Language IsText outer)
    (ts : List PlacedTerminal) (at : ℕ)
    → fate outer end l.start ts ≡ syntax_at at → FailsAt IsText outer end ts at
fails_at IsText outer end l ts at e =
    stops_fail IsText outer end l ts at (told outer end l.start ts (syntax_at at) (low_start IsText outer l) e)

pub deep_at_opener : (IsText : List PlainTerminal → Type 0) (outer end : ℕ) (l : Language IsText outer)
    (ts : List PlacedTerminal) (at : ℕ)
    → fate outer end l.start ts ≡ deep_at at → DeepAt IsText outer ts at
deep_at_opener IsText outer end l ts at e =
    deepens_deep IsText outer end l ts at (told outer end l.start ts (deep_at at) (low_start IsText outer l) e)

pub is_text : (IsText : List PlainTerminal → Type 0) (outer end : ℕ) (l : Language IsText outer)
    (ts : List PlacedTerminal)
    → fate outer end l.start ts ≡ finished → IsText (kinds_of ts) × IsShallow outer (kinds_of ts)
is_text IsText outer end l ts e =
    finishes_text IsText outer l ts (told outer end l.start ts finished (low_start IsText outer l) e)
