-- Lists by their places: numbered lists, the first that passes a test, the oldest copy of a flight, and cut tuples.
use Rattle.std.proofs.Common.{◌≡◌, ℕ, zero, suc, ◌+◌, ◌-◌, ◌≤◌, Bool, true, false, cond, List, [], ◌∷◌, ◌++◌, map, take}
use Rattle.std.proofs.Common.{drop, set, replicate, slice_get, Some, None, All, refl, sym, ap, ap₂, ◌∙◌, subst, arith}
use Rattle.std.specs.Prelude.{position, find, slice_index_or, slice_set}
use Rattle.std.specs.List.{enumerate_from, position_from, position_or_len}
use Rattle.std.proofs.lemmas.Iterator.Adapters.{position_from-zero}
use Rattle.std.proofs.lemmas.List.{length-set}
use Rattle.std.proofs.lemmas.List.Elements.{All-head, All-tail, All-append, All-take, All-drop}
use Rattle.std.proofs.lemmas.Option.{get_or_from_slice_get}
use Rattle.list_lemmas.proofs.ElementPositions.{slice_get-map_enumerate}
use Rattle.pals_base.specs.declared.basic_types.PortValue.{PortValue}
use Rattle.pals_base.specs.declared.basic_types.PortValue.TheVariants.{Absent}
use Rattle.pals_base.specs.Tuples.{cut, with_places}
use Rattle.pals_model.specs.declared.flight_copy.FlightCopy.{FlightCopy}
use Rattle.pals_model.specs.Flights.{is_of, oldest, without_oldest}

-- ---- lists whose elements are numbered
pub numbered_at : {X Y : Type 0} (f : ℕ × X → Y) (xs : List X) (k : ℕ) (x : X) (d : Y) → slice_get xs k ≡ Some x
    → slice_index_or (map f (enumerate_from 0 xs)) k d ≡ f (k, x)
numbered_at f xs k x d is_x =
    get_or_from_slice_get (map f (enumerate_from 0 xs)) k (f (k, x)) d (slice_get-map_enumerate f xs k x is_x)

-- ---- the first that passes
none_or : {X : Type 0} (test : X → Bool) (y : X) (ys : List X) (from k : ℕ) (x : X) (b : Bool) → test y ≡ b
    → cond b (Some from) (position_from test (from + 1) ys) ≡ None → slice_get (y ∷ ys) k ≡ Some x
    → ((m : ℕ) → position_from test (from + 1) ys ≡ None → slice_get ys m ≡ Some x → test x ≡ false) → test x ≡ false
none_or test y ys from k x true passes none is_x later = absurd (cc)
none_or test y ys from zero x false fails none is_x later = let same : y ≡ x = cc in ap test (sym same) ∙ fails
none_or test y ys from (suc k) x false fails none is_x later = later k none is_x

none_from : {X : Type 0} (test : X → Bool) (xs : List X) (from k : ℕ) (x : X) → position_from test from xs ≡ None
    → slice_get xs k ≡ Some x → test x ≡ false
none_from test [] from k x none is_x = absurd (cc)
none_from test (y ∷ ys) from k x none is_x =
    none_or test y ys from k x (test y) refl none is_x (λ m. none_from test ys (from + 1) m x)

pub none_found : {X : Type 0} (test : X → Bool) (xs : List X) (k : ℕ) (x : X) → position test xs ≡ None
    → slice_get xs k ≡ Some x → test x ≡ false
none_found test xs k x none is_x = none_from test xs 0 k x (sym (position_from-zero test xs) ∙ none) is_x

-- ---- flights
pub All-without_oldest : (P : FlightCopy → Type 0) (round : ℕ) (copies : List FlightCopy) → All P copies
    → All P (without_oldest round copies)
All-without_oldest P round copies all =
    let at = position_or_len (is_of round) copies in
    All-append P (take at copies) (drop (at + 1) copies) (All-take P at copies all) (All-drop P (at + 1) copies all)

found_or : (P : FlightCopy → Type 0) (round : ℕ) (c copy : FlightCopy) (cs : List FlightCopy) (b : Bool)
    → is_of round c ≡ b → P c → cond b (Some c) (find (is_of round) cs) ≡ Some copy
    → (find (is_of round) cs ≡ Some copy → P copy × (is_of round copy ≡ true)) → P copy × (is_of round copy ≡ true)
found_or P round c copy cs true is holds found later = let same : c ≡ copy = cc in
    (subst P same holds, ap (is_of round) (sym same) ∙ is)
found_or P round c copy cs false is holds found later = later found

-- the oldest copy of a round is one of the copies, and of that round
pub oldest_is_one : (P : FlightCopy → Type 0) (round : ℕ) (copies : List FlightCopy) (copy : FlightCopy) → All P copies
    → oldest round copies ≡ Some copy → P copy × (is_of round copy ≡ true)
oldest_is_one P round [] copy all found = absurd (cc)
oldest_is_one P round (c ∷ cs) copy all found =
    found_or P round c copy cs (is_of round c) refl (All-head P c cs all) found
    (oldest_is_one P round cs copy (All-tail P c cs all))

-- ---- places of tuples
take_before : (count at : ℕ) (tuple : List PortValue) (value : PortValue) → count ≤ at
    → take count (set tuple at value) ≡ take count tuple
take_before zero at tuple value below = refl
take_before (suc count) zero tuple value below = absurd (omega arith)
take_before (suc count) (suc at) [] value below = refl
take_before (suc count) (suc at) (p ∷ ps) value below = ap (λ qs. p ∷ qs) (take_before count at ps value (omega arith))

cut_before : (count at : ℕ) (tuple : List PortValue) (value : PortValue) → count ≤ at
    → cut count (slice_set tuple at value) ≡ cut count tuple
cut_before count at tuple value below =
    ap₂ (λ places n. places ++ replicate (n - count) Absent) (take_before count at tuple value below)
    (length-set tuple at value)

-- a place past the cut does not matter
pub cut_places : (count at : ℕ) (values : List PortValue) (tuples : List (List PortValue)) (port : ℕ) → count ≤ at
    → cut count (slice_index_or (with_places at values tuples) port []) ≡ cut count (slice_index_or tuples port [])
cut_places count at [] tuples port below = refl
cut_places count at (v ∷ vs) [] port below = refl
cut_places count at (v ∷ vs) (t ∷ ts) zero below = cut_before count at t v below
cut_places count at (v ∷ vs) (t ∷ ts) (suc port) below = cut_places count at vs ts port below
