-- For the law that rounds keep kinds: an adaptor that suits a kind keeps it.
use Rattle.std.proofs.Common.{ℕ, zero, suc, ◌-◌, ◌/◌, nat_lt, ℤ, Bool, true, false, cond, List, [], ◌∷◌, length, map}
use Rattle.std.proofs.Common.{take, drop, replicate, All, Option, Some, None, IsTrue}
use Rattle.std.specs.Prelude.{flat_map}
use Rattle.std.proofs.lemmas.Bool.{false≢true}
use Rattle.std.proofs.lemmas.List.Elements.{All-nil, All-cons, All-head, All-tail, All-take, All-replicate, All-drop}
use Rattle.pals_base.specs.declared.basic_types.PortValue.{PortValue}
use Rattle.pals_base.specs.declared.basic_types.PortValue.TheVariants.{Absent, Present}
use Rattle.pals_base.specs.declared.allowed_adaptors.Adaptor.{Adaptor}
use Rattle.pals_base.specs.declared.allowed_adaptors.Adaptor.TheVariants.{Repeat, First, Last, At, Latest, Max, Min}
use Rattle.pals_base.specs.declared.allowed_adaptors.Adaptor.TheVariants.{Average}
use Rattle.pals_base.specs.declared.behaviour.Kind.{Kind}
use Rattle.pals_base.specs.declared.behaviour.Kind.TheVariants.{Integer, Boolean}
use Rattle.pals_base.specs.Adaptors.{groups, present, placed, spread, of_present, latest_of, joined, adapt}
use Rattle.pals_base.specs.AllowedAdaptors.{suits_kind}
use Rattle.pals_model.specs.proof.ValuesFitKinds.{Fits, PortFits, TupleFits}
use Rattle.pals_model.proofs.AllElements.{index_fits, set_all, map_all, flat_all, every}

-- ---- numbers: each fits
pub integer_fits : (p : PortValue) → PortFits Integer p
integer_fits Absent = tt
integer_fits (Present v) = tt

-- ---- to a higher rate
pub absent_fits : (kind : Kind) (n : ℕ) → TupleFits kind (replicate n Absent)
absent_fits kind n = All-replicate (PortFits kind) n Absent tt

placed_fits : (kind : Kind) (n m : ℕ) (p : PortValue) → PortFits kind p → TupleFits kind (placed n m p)
placed_fits kind n m p fits = set_all (PortFits kind) (replicate m Absent) (n - 1) p (absent_fits kind m) fits

spread_fits : (a : Adaptor) (kind : Kind) (m : ℕ) (p : PortValue) → PortFits kind p → TupleFits kind (spread a m p)
spread_fits Repeat kind m p fits = All-replicate (PortFits kind) m p fits
spread_fits First kind m p fits = placed_fits kind 1 m p fits
spread_fits Last kind m p fits = placed_fits kind m m p fits
spread_fits (At n) kind m p fits = placed_fits kind n m p fits
spread_fits Latest kind m p fits = absent_fits kind m
spread_fits Max kind m p fits = absent_fits kind m
spread_fits Min kind m p fits = absent_fits kind m
spread_fits Average kind m p fits = absent_fits kind m

-- ---- to a lower rate
present_fits : (kind : Kind) (tuple : List PortValue) → TupleFits kind tuple → All (Fits kind) (present tuple)
present_fits kind [] all = All-nil (Fits kind)
present_fits kind (Absent ∷ tuple) all = present_fits kind tuple (All-tail (PortFits kind) Absent tuple all)
present_fits kind (Present v ∷ tuple) all =
    All-cons (Fits kind) v (present tuple) (All-head (PortFits kind) (Present v) tuple all)
    (present_fits kind tuple (All-tail (PortFits kind) (Present v) tuple all))

latest_fits : (kind : Kind) (v : ℤ) (vs : List ℤ) → Fits kind v → All (Fits kind) vs → Fits kind (latest_of v vs)
latest_fits kind v [] fits all = fits
latest_fits kind v (w ∷ vs) fits all =
    latest_fits kind w vs (All-head (Fits kind) w vs all) (All-tail (Fits kind) w vs all)

of_present_fits : (kind : Kind) (vs : List ℤ) → All (Fits kind) vs → PortFits kind (of_present latest_of vs)
of_present_fits kind [] all = tt
of_present_fits kind (v ∷ vs) all =
    latest_fits kind v vs (All-head (Fits kind) v vs all) (All-tail (Fits kind) v vs all)

joined_fits : (a : Adaptor) (group : List PortValue) → IsTrue (suits_kind (Some a) Boolean) → TupleFits Boolean group
    → PortFits Boolean (joined a group)
joined_fits Repeat group suits all = tt
joined_fits First group suits all = index_fits (PortFits Boolean) group 0 Absent all tt
joined_fits Last group suits all = index_fits (PortFits Boolean) group (length group - 1) Absent all tt
joined_fits (At n) group suits all = index_fits (PortFits Boolean) group (n - 1) Absent all tt
joined_fits Latest group suits all = of_present_fits Boolean (present group) (present_fits Boolean group all)
joined_fits Max group suits all = absurd (false≢true suits)
joined_fits Min group suits all = absurd (false≢true suits)
joined_fits Average group suits all = absurd (false≢true suits)

groups_fit : (kind : Kind) (count m : ℕ) (tuple : List PortValue) → TupleFits kind tuple
    → All (TupleFits kind) (groups count m tuple)
groups_fit kind zero m tuple all = All-nil (TupleFits kind)
groups_fit kind (suc count) m tuple all =
    All-cons (TupleFits kind) (take m tuple) (groups count m (drop m tuple)) (All-take (PortFits kind) m tuple all)
    (groups_fit kind count m (drop m tuple) (All-drop (PortFits kind) m tuple all))

-- ---- the whole
if_fits : (kind : Kind) (b : Bool) (xs ys : List PortValue) → TupleFits kind xs → TupleFits kind ys
    → TupleFits kind (cond b xs ys)
if_fits kind true xs ys here there = here
if_fits kind false xs ys here there = there

boolean_fits : (a : Option Adaptor) (p q : ℕ) (tuple : List PortValue) → IsTrue (suits_kind a Boolean)
    → TupleFits Boolean tuple → TupleFits Boolean (adapt a p q tuple)
boolean_fits None p q tuple suits all = all
boolean_fits (Some a) p q tuple suits all =
    if_fits Boolean (nat_lt p q) (flat_map (spread a (q / p)) tuple) (map (joined a) (groups q (p / q) tuple))
    (flat_all (PortFits Boolean) (PortFits Boolean) (spread a (q / p)) tuple
    (λ port fits. spread_fits a Boolean (q / p) port fits) all)
    (map_all (TupleFits Boolean) (PortFits Boolean) (joined a) (groups q (p / q) tuple)
    (λ group fits. joined_fits a group suits fits) (groups_fit Boolean q (p / q) tuple all))

pub adapt_fits : (kind : Kind) (a : Option Adaptor) (p q : ℕ) (tuple : List PortValue) → IsTrue (suits_kind a kind)
    → TupleFits kind tuple → TupleFits kind (adapt a p q tuple)
adapt_fits Integer a p q tuple suits all = every (PortFits Integer) (adapt a p q tuple) integer_fits
adapt_fits Boolean a p q tuple suits all = boolean_fits a p q tuple suits all
