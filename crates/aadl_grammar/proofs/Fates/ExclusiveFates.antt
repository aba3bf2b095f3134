-- A list of terminals has exactly one of three fates, which are a text, a syntax fault and a depth fault, and at only
-- one place. For the laws of fates.
use Rattle.std.proofs.Common.{◌≡◌, ℕ, ◌∙◌, sym, ap, subst, refl, List, [], ◌∷◌, ◌++◌, arith, append_assoc}
use Rattle.std.proofs.lemmas.List.{append-nil, map-append}
use Rattle.aadl_tree.specs.Terminals.{PlainTerminal, PlacedTerminal, kinds_of}
use Rattle.aadl_tree.specs.PackagesBehavioursAndNesting.{nesting, IsShallow}
use Rattle.aadl_tree.specs.TerminalFaults.{Begins, IsStuck, place, FailsAt, DeepAt}
use Rattle.aadl_grammar.proofs.HeadsAndTails.{heads, tails}

kinds_append : (a b : List PlacedTerminal) → kinds_of (a ++ b) ≡ kinds_of a ++ kinds_of b
kinds_append a b = map-append (λ (x : PlacedTerminal). x.kind) a b

-- two fronts of one list: they are equal, or one continues after the end of the other
pub data Fronts : List PlacedTerminal → List PlacedTerminal → List PlacedTerminal → List PlacedTerminal → Type 0 where
  same : (a x : List PlacedTerminal) → Fronts a x a x
  before : (a b y : List PlacedTerminal) (t : PlacedTerminal) → Fronts a (t ∷ b ++ y) (a ++ t ∷ b) y
  behind : (a b y : List PlacedTerminal) (t : PlacedTerminal) → Fronts (a ++ t ∷ b) y a (t ∷ b ++ y)

more_fronts : (t : PlacedTerminal) (a x b y : List PlacedTerminal) → Fronts a x b y → Fronts (t ∷ a) x (t ∷ b) y
more_fronts t _ _ _ _ (same a x) = same (t ∷ a) x
more_fronts t _ _ _ _ (before a b y u) = before (t ∷ a) b y u
more_fronts t _ _ _ _ (behind a b y u) = behind (t ∷ a) b y u

fronts : (a x b y : List PlacedTerminal) → a ++ x ≡ b ++ y → Fronts a x b y
fronts [] x [] y e = subst (λ (z : List PlacedTerminal). Fronts [] x [] z) e (same [] x)
fronts [] x (u ∷ b) y e = subst (λ (z : List PlacedTerminal). Fronts [] z (u ∷ b) y) (sym e) (before [] b y u)
fronts (t ∷ a) x [] y e = subst (λ (z : List PlacedTerminal). Fronts (t ∷ a) x [] z) e (behind [] a x t)
fronts (t ∷ a) x (u ∷ b) y e =
    subst (λ (z : PlacedTerminal). Fronts (t ∷ a) x (z ∷ b) y) (heads t u (a ++ x) (b ++ y) e)
    (more_fronts t a x b y (fronts a x b y (tails t u (a ++ x) (b ++ y) e)))

begins_front : (IsText : List PlainTerminal → Type 0) (a : List PlacedTerminal) (t : PlacedTerminal)
    (b : List PlacedTerminal)
    → Begins IsText (kinds_of (a ++ t ∷ b)) → Begins IsText (kinds_of a ++ t.kind ∷ [])
begins_front IsText a t b r = record {
  more = kinds_of b ++ r.more;
  text =
      subst IsText (ap (λ l. l ++ r.more) (kinds_append a (t ∷ b))
      ∙ append_assoc (kinds_of a) (t.kind ∷ kinds_of b) r.more
      ∙ sym (append_assoc (kinds_of a) (t.kind ∷ []) (kinds_of b ++ r.more))) r.text;
}

-- a text that begins with more terminals contradicts a shorter list that is stuck
stuck_before : (IsText : List PlainTerminal → Type 0) (a b y : List PlacedTerminal) (t : PlacedTerminal)
    → IsStuck IsText (kinds_of a) (t ∷ b ++ y)
    → Begins IsText (kinds_of (a ++ t ∷ b)) → ⊥
stuck_before IsText a b y t never r = never (begins_front IsText a t b r)

record Failed (IsText : List PlainTerminal → Type 0) (outer : ℕ) (seen left : List PlacedTerminal) : Type 0 where
  begins : Begins IsText (kinds_of seen)
  stuck : IsStuck IsText (kinds_of seen) left
  shallow : IsShallow outer (kinds_of seen)

failed_same : (IsText : List PlainTerminal → Type 0) (outer end : ℕ) (a x b y : List PlacedTerminal) → Fronts a x b y
    → Failed IsText outer a x → Failed IsText outer b y → place end x ≡ place end y
failed_same IsText outer end _ _ _ _ (same a x) f g = refl
failed_same IsText outer end _ _ _ _ (before a b y t) f g = absurd (stuck_before IsText a b y t f.stuck g.begins)
failed_same IsText outer end _ _ _ _ (behind a b y t) f g = absurd (stuck_before IsText a b y t g.stuck f.begins)

pub fails_once : (IsText : List PlainTerminal → Type 0) (outer end : ℕ) (ts : List PlacedTerminal) (at to : ℕ)
    → FailsAt IsText outer end ts at → FailsAt IsText outer end ts to → at ≡ to
fails_once IsText outer end ts at to f g =
    let e =
    failed_same IsText outer end f.seen f.left g.seen g.left
    (fronts f.seen f.left g.seen g.left (sym f.whole ∙ g.whole))
    (record { begins = f.begins; stuck = f.stuck; shallow = f.shallow })
    (record { begins = g.begins; stuck = g.stuck; shallow = g.shallow }) in
    f.place ∙ e ∙ sym g.place

too_deep : (outer : ℕ) (ks front back : List PlainTerminal) → IsShallow outer ks → ks ≡ front ++ back
    → nesting outer front ≡ 65 → ⊥
too_deep outer ks front back flat e d = let h = flat front back e in absurd (omega arith)

record Deep (IsText : List PlainTerminal → Type 0) (outer : ℕ) (seen : List PlacedTerminal) : Type 0 where
  begins : Begins IsText (kinds_of seen)
  deep : nesting outer (kinds_of seen) ≡ 65

failed_deep : (IsText : List PlainTerminal → Type 0) (outer : ℕ) (a x b y : List PlacedTerminal) → Fronts a x b y
    → Failed IsText outer a x
    → Deep IsText outer b → ⊥
failed_deep IsText outer _ _ _ _ (same a x) f d =
    too_deep outer (kinds_of a) (kinds_of a) [] f.shallow (sym (append-nil (kinds_of a))) d.deep
failed_deep IsText outer _ _ _ _ (before a b y t) f d = stuck_before IsText a b y t f.stuck d.begins
failed_deep IsText outer _ _ _ _ (behind a b y t) f d =
    too_deep outer (kinds_of (a ++ t ∷ b)) (kinds_of a) (kinds_of (t ∷ b)) f.shallow (kinds_append a (t ∷ b)) d.deep

pub fails_not_deep : (IsText : List PlainTerminal → Type 0) (outer end : ℕ) (ts : List PlacedTerminal) (at to : ℕ)
    → FailsAt IsText outer end ts at → DeepAt IsText outer ts to → ⊥
fails_not_deep IsText outer end ts at to f d =
    let kinds = kinds_append d.seen (d.opener ∷ []) in
    failed_deep IsText outer f.seen f.left (d.seen ++ d.opener ∷ []) d.left
    (fronts f.seen f.left (d.seen ++ d.opener ∷ []) d.left
    (sym f.whole ∙ d.whole ∙ sym (append_assoc d.seen (d.opener ∷ []) d.left)))
    (record { begins = f.begins; stuck = f.stuck; shallow = f.shallow })
    (record { begins = subst (Begins IsText) (sym kinds) d.begins; deep = ap (nesting outer) kinds ∙ d.deep })

record Opens (outer : ℕ) (seen : List PlacedTerminal) (opener : PlacedTerminal) : Type 0 where
  shallow : IsShallow outer (kinds_of seen)
  deep : nesting outer (kinds_of seen ++ opener.kind ∷ []) ≡ 65

opener_is : (t u : PlacedTerminal) (x y : List PlacedTerminal) → t ∷ x ≡ u ∷ y → t.at ≡ u.at
opener_is t u x y e = ap (λ (z : PlacedTerminal). z.at) (heads t u x y e)

deep_before : (outer : ℕ) (a b : List PlacedTerminal) (t : PlacedTerminal) → IsShallow outer (kinds_of (a ++ t ∷ b))
    → nesting outer (kinds_of a ++ t.kind ∷ []) ≡ 65 → ⊥
deep_before outer a b t flat d =
    too_deep outer (kinds_of (a ++ t ∷ b)) (kinds_of a ++ t.kind ∷ []) (kinds_of b) flat
    (kinds_append a (t ∷ b) ∙ sym (append_assoc (kinds_of a) (t.kind ∷ []) (kinds_of b))) d

deep_same : (outer : ℕ) (a x b y : List PlacedTerminal) → Fronts a x b y
    → (t u : PlacedTerminal) (v w : List PlacedTerminal) → x ≡ t ∷ v → y ≡ u ∷ w
    → Opens outer a t → Opens outer b u → t.at ≡ u.at
deep_same outer _ _ _ _ (same a x) t u v w e h d f = opener_is t u v w (sym e ∙ h)
deep_same outer _ _ _ _ (before a b y z) t u v w e h d f =
    absurd (deep_before outer a b z f.shallow
    (ap (λ (q : PlacedTerminal). nesting outer (kinds_of a ++ q.kind ∷ [])) (heads z t (b ++ y) v e) ∙ d.deep))
deep_same outer _ _ _ _ (behind a b y z) t u v w e h d f =
    absurd (deep_before outer a b z d.shallow
    (ap (λ (q : PlacedTerminal). nesting outer (kinds_of a ++ q.kind ∷ [])) (heads z u (b ++ y) w h) ∙ f.deep))

pub deep_once : (IsText : List PlainTerminal → Type 0) (outer : ℕ) (ts : List PlacedTerminal) (at to : ℕ)
    → DeepAt IsText outer ts at
    → DeepAt IsText outer ts to → at ≡ to
deep_once IsText outer ts at to d f =
    let e =
    deep_same outer d.seen (d.opener ∷ d.left) f.seen (f.opener ∷ f.left)
    (fronts d.seen (d.opener ∷ d.left) f.seen (f.opener ∷ f.left) (sym d.whole ∙ f.whole)) d.opener f.opener d.left
    f.left refl refl
    (record { shallow = d.shallow; deep = d.deep }) (record { shallow = f.shallow; deep = f.deep }) in
    d.place ∙ e ∙ sym f.place
