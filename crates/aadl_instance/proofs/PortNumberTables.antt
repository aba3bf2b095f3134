-- The number of a port among the ports of its type with the same direction, as the code counts them.
use Rattle.std.proofs.Common.{◌≡◌, ◌⊎◌, inl, inr, ℕ, ◌+◌, ◌<◌, ◌≤◌, Bool, true, false, cond, List, [], ◌∷◌, ◌++◌}
use Rattle.std.proofs.Common.{length, map, take, get_or, slice_get, count_by, Some, None, refl, sym, ap, subst, ◌∙◌}
use Rattle.std.proofs.Common.{arith}
use Rattle.std.proofs.lemmas.Bool.{cases_lt}
use Rattle.std.proofs.lemmas.List.{length-map, length-take-le, get_or_append_left, get_or_push}
use Rattle.std.proofs.lemmas.List.Sums.{count_by-le-length, count_by_more_yes, count_by_more_no}
use Rattle.std.proofs.lemmas.Option.{slice_get_past, slice_get_read}
use Rattle.aadl_tree.specs.declared.declarations.Direction.{Direction}
use Rattle.aadl_tree.specs.declared.declarations.Direction.TheVariants as directions
use Rattle.aadl_tree.specs.declared.declarations.Feature as source
use Rattle.aadl_tree.specs.Declarations.{Feature, PackageTree}
use Rattle.aadl_tree.specs.proof.PlaceMaps.{kept_place}
use Rattle.aadl_tree.specs.proof.DeclarationViews.{feature_view}
use Rattle.aadl_names.specs.NameResolution.{type_in, type_numbered, features_of}
use Rattle.aadl_instance.specs.InstancesByNumbers.{same_direction, goes_as, number_among}
use Rattle.aadl_instance.specs.proof.PortNumberTables.{AreAmong, AreNumbers, seen, with_port}
use Rattle.aadl_instance.specs.declared.port_numbers.SeenPorts.{SeenPorts}
use Rattle.aadl_instance.proofs.ChainEndNumbers.{number_is}

-- ---- lists
pub more_at : {X : Type 0} (P : ℕ → X → Type 0) (xs : List X) (x d : X) (n : ℕ) → length xs ≡ n
    → ((k : ℕ) → k < n → P k (get_or xs k d)) → P n x
    → (k : ℕ) → k < n + 1 → P k (get_or (xs ++ x ∷ []) k d)
more_at P xs x d n size before here k lt = by (cases_lt k n)
  where
    by : (k < n) ⊎ (n ≤ k) → P k (get_or (xs ++ x ∷ []) k d)
    by (inl less) = subst (P k) (sym (get_or_append_left xs (x ∷ []) d k (omega arith))) (before k less)
    by (inr le) =
        let same : n ≡ k = omega arith in
        subst (λ i. P i (get_or (xs ++ x ∷ []) i d)) same (subst (P n) (sym (get_or_push xs x d n size)) here)

-- ---- ports so far
abbrev pub tally : Direction → List source.Feature → ℕ
tally d ports = count_by (λ port. same_direction d port.direction) ports

abbrev pub AreSeen : List source.Feature → ℕ → SeenPorts → Type 0
AreSeen ports i s = (d : Direction) → seen s d ≡ tally d (take i ports)

one_seen : (s : SeenPorts) (a d : Direction) → seen (with_port s a) d ≡ seen s d + cond (same_direction d a) 1 0
one_seen s directions.In directions.In = refl
one_seen s directions.In directions.Out = omega arith
one_seen s directions.Out directions.In = omega arith
one_seen s directions.Out directions.Out = refl

tally_more : (ports : List source.Feature) (i : ℕ) (x : source.Feature) (d : Direction) → i < length ports
    → x ≡ get_or ports i x
    → tally d (take (i + 1) ports) ≡ tally d (take i ports) + cond (same_direction d x.direction) 1 0
tally_more ports i x d lt e = by (same_direction d x.direction) refl
  where
    by : (b : Bool) → same_direction d x.direction ≡ b
        → tally d (take (i + 1) ports) ≡ tally d (take i ports) + cond b 1 0
    by true t =
        count_by_more_yes (λ port. same_direction d port.direction) ports i x lt
        (ap (λ (port : source.Feature). same_direction d port.direction) (sym e) ∙ t)
    by false t =
        let same = count_by_more_no (λ port. same_direction d port.direction) ports i x lt
        (ap (λ (port : source.Feature). same_direction d port.direction) (sym e) ∙ t) in
        omega arith

pub seen_more : (ports : List source.Feature) (i : ℕ) (x : source.Feature) (s new : SeenPorts) → i < length ports
    → x ≡ get_or ports i x → new ≡ with_port s x.direction
    → AreSeen ports i s → AreSeen ports (i + 1) new
seen_more ports i x s new lt e is before d =
    ap (λ t. seen t d) is
    ∙ (one_seen s x.direction d
    ∙ (ap (λ n. n + cond (same_direction d x.direction) 1 0) (before d) ∙ sym (tally_more ports i x d lt e)))

pub few_seen : (ports : List source.Feature) (i : ℕ) (s : SeenPorts) (d : Direction) → i ≤ length ports
    → AreSeen ports i s → seen s d ≤ i
few_seen ports i s d within before =
    let same = before d in
    let counted = count_by-le-length (λ port. same_direction d port.direction) (take i ports) in
    let taken = length-take-le i ports within in
    omega (arith, same, counted, taken)

pub number_seen : (ports : List source.Feature) (i : ℕ) (x : source.Feature) (s : SeenPorts) → i < length ports
    → x ≡ get_or ports i x → AreSeen ports i s
    → seen s x.direction ≡ number_among (map (feature_view kept_place) ports) i
number_seen ports i x s lt e before =
    before x.direction ∙ number_is ports i x (slice_get_read ports (length ports) i x refl lt e)

pub row_whole : (ports : List source.Feature) (i : ℕ) (row : List ℕ) → length ports ≤ i
    → ((k : ℕ) → k < i → get_or row k 0 ≡ number_among (map (feature_view kept_place) ports) k)
    → AreAmong (map (feature_view kept_place) ports) row
row_whole ports i row all each port lt = let size = length-map ports (feature_view kept_place) in
    each port (omega (arith, size, lt, all))

-- ---- types
pub rows_whole : (tree : PackageTree ℕ) (count : ℕ) (rows : List (List ℕ)) → length tree.declarations ≤ count
    → ((n : ℕ) → n < count → AreAmong (features_of (type_numbered tree (Some n))) (get_or rows n []))
    → AreNumbers tree rows
rows_whole tree count rows all each None port lt = absurd (omega (arith, lt))
rows_whole tree count rows all each (Some n) port lt = by (cases_lt n count)
  where
    by : (n < count) ⊎ (count ≤ n)
        → get_or (get_or rows n []) port 0 ≡ number_among (features_of (type_numbered tree (Some n))) port
    by (inl less) = each n less port lt
    by (inr le) =
        let past = slice_get_past tree.declarations n (omega arith) in
        let none : port < length (features_of (type_in None)) =
        subst (λ o. port < length (features_of (type_in o))) past lt in
        absurd (omega (arith, none))

-- a number is at most its port's
pub few_before : (ports : List (Feature ℕ)) (port : ℕ) → port ≤ length ports → number_among ports port ≤ port
few_before ports port within =
    let counted = count_by-le-length (goes_as (slice_get ports port)) (take port ports) in
    let taken = length-take-le port ports within in
    omega (arith, counted, taken)
