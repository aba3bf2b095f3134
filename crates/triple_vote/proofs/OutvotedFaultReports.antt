-- The report of a run whose faults are outvoted is that of the composition, with each replicated component's line
-- three times.
use Rattle.std.proofs.Common.{◌≡◌, ◌∙◌, ℕ, zero, suc, ◌+◌, ◌<◌, nat_eq, Bool, true, false, cond, if◌then◌else◌, List}
use Rattle.std.proofs.Common.{[], ◌∷◌, ◌++◌, length, map, filter, flat_map, take, Some, slice_get, slice_index_or, refl}
use Rattle.std.proofs.Common.{sym, ap, ap₂, arith}
use Rattle.std.specs.List.{enumerate_from}
use Rattle.std.proofs.lemmas.Bool.{eq-eqb}
use Rattle.std.proofs.lemmas.Option.{slice_get_within, slice_get-map, get_or_from_slice_get}
use Rattle.std.specs.Option.{option_map}
use Rattle.pals_base.specs.declared.basic_types.PortValue.{PortValue}
use Rattle.pals_base.specs.declared.frames.Frame.{Frame}
use Rattle.pals_base.specs.UpwardNumbers.{upwards}
use Rattle.pals_base.proofs.UpwardNumbers.{map_upwards_same}
use Rattle.pals_model.specs.declared.design.Component.{Component}
use Rattle.pals_model.specs.declared.design.Tap.{Tap}
use Rattle.pals_model.specs.declared.design.DesignParts.{DesignParts}
use Rattle.pals_model.specs.declared.environment.Env.{Env}
use Rattle.pals_model.specs.declared.part.Part.{Part}
use Rattle.pals_model.specs.PortKindsAndRates.{out_kind}
use Rattle.pals_model.specs.Composition.{state, steps_of_round, tuple_of, taps_of, part}
use Rattle.pals_model.specs.RoundTexts.{text_of, round_line, component_line, tap_line, part_lines, tap_lines}
use Rattle.pals_model.specs.RoundTexts.{taps_before, composed_lines}
use Rattle.pals_model.proofs.CompositionLaws.{state_goes_on, part_from_steps}
use Rattle.triple_vote.specs.VotedComposition.{is_replicated, copies_of, frame_at, voted_composition, voted_tap}
use Rattle.triple_vote.specs.VotedText.{replica_name, replica_lines, shown_line, voted_row, voted_lines, tripled_lines}
use Rattle.triple_vote.specs.proof.VoteLaws.{ReportIsThrice, ThriceWithoutReplicas}
use Rattle.triple_vote.proofs.CompositionAgreement.{replicas_are_states, taps_show_tuples}

-- ---- lists of equal elements
map-same : {A B : Type 0} (f g : A → B) (xs : List A) → ((k : ℕ) (x : A) → slice_get xs k ≡ Some x → f x ≡ g x)
    → map f xs ≡ map g xs
map-same f g [] each = refl
map-same f g (x ∷ xs) each = ap₂ (λ y ys. y ∷ ys) (each 0 x refl) (map-same f g xs (λ k y is. each (suc k) y is))

rounds-same : {A : Type 0} (f g : ℕ → List A) → ((k : ℕ) → f k ≡ g k) → (xs : List ℕ) → flat_map f xs ≡ flat_map g xs
rounds-same f g each [] = refl
rounds-same f g each (x ∷ xs) = ap₂ (λ ys zs. ys ++ zs) (each x) (rounds-same f g each xs)

numbered-same : {A B : Type 0} (f g : ℕ × A → List B) (first : ℕ) (xs : List A)
    → ((k n : ℕ) (x : A) → n ≡ first + k → slice_get xs k ≡ Some x → f (n, x) ≡ g (n, x))
    → flat_map f (enumerate_from first xs) ≡ flat_map g (enumerate_from first xs)
numbered-same f g first [] each = refl
numbered-same f g first (x ∷ xs) each =
    ap₂ (λ ys zs. ys ++ zs) (each 0 first x (omega arith) refl)
    (numbered-same f g (first + 1) xs (λ k n y at is. each (suc k) n y (omega arith) is))

numbered-one : {A B : Type 0} (f : A → B) (g : ℕ × A → List B) (first : ℕ) (xs : List A)
    → ((k n : ℕ) (x : A) → n ≡ first + k → slice_get xs k ≡ Some x → g (n, x) ≡ f x ∷ [])
    → map f xs ≡ flat_map g (enumerate_from first xs)
numbered-one f g first [] each = refl
numbered-one f g first (x ∷ xs) each =
    ap₂ (λ ys zs. ys ++ zs) (sym (each 0 first x (omega arith) refl))
    (numbered-one f g (first + 1) xs (λ k n y at is. each (suc k) n y (omega arith) is))

-- ---- rows of equal frames and tuples
abbrev row_of : ℕ → List (List ℕ) → List (List ℕ) → List (List ℕ)
row_of round lines outs = round_line round ∷ lines ++ outs

row-same : (design : DesignParts) (replicated : List Bool) (f g : ℕ → ℕ → Frame)
    (shown other : Tap → List PortValue) (round : ℕ)
    → ((node replica : ℕ) → node < length design.components → replica < copies_of replicated node
    → f node replica ≡ g node replica)
    → ((n : ℕ) (tap : Tap) → slice_get design.taps n ≡ Some tap → shown tap ≡ other tap)
    → voted_row design replicated f shown round ≡ voted_row design replicated g other round
row-same design replicated f g shown other round frames taps =
    ap₂ (row_of round)
    (numbered-same (λ numbered. replica_lines replicated f numbered.0 numbered.1)
    (λ numbered. replica_lines replicated g numbered.0 numbered.1) 0 design.components
    (λ k n c at is.
    let within : n < length design.components =
    (let inside = slice_get_within design.components k c is in omega (arith, inside, at)) in
    map_upwards_same (λ replica.
    component_line (replica_name c.path (is_replicated replicated n) replica) c.behaviour (f n replica))
    (λ replica. component_line (replica_name c.path (is_replicated replicated n) replica) c.behaviour (g n replica)) 0
    (copies_of replicated n)
    (λ replica above below. ap (component_line (replica_name c.path (is_replicated replicated n) replica) c.behaviour)
    (frames n replica within (omega arith)))))
    (map-same (shown_line design shown) (shown_line design other) design.taps
    (λ k tap is. ap (tap_line (out_kind (slice_get design.components tap.source.0) tap.out_port) tap) (taps k tap is)))

pub report_is_thrice : ReportIsThrice
report_is_thrice design env replicated faults n sound are outvoted =
    ap text_of (rounds-same (voted_lines design env replicated faults) (tripled_lines design env replicated)
    (λ round. row-same design replicated (frame_at (voted_composition design env replicated faults (suc round)))
    (λ node replica. state design env node (suc round))
    (λ tap. voted_tap design env replicated faults tap round)
    (λ tap. tuple_of (steps_of_round design env round) tap.source.0 tap.out_port) round
    (λ node replica within below.
    replicas_are_states design env replicated faults sound are outvoted node replica (suc round) within below)
    (λ k tap is. taps_show_tuples design env replicated faults sound are outvoted k round tap is))
    (upwards 0 n))

-- ---- without replicas
-- an element that passes follows the earlier elements that pass
later-place : {A : Type 0} (y x : A) (xs before : List A) (b : Bool) → slice_get xs (length before) ≡ Some x
    → slice_get (cond b (y ∷ xs) xs) (length (cond b (y ∷ before) before)) ≡ Some x
later-place y x xs before true rest = rest
later-place y x xs before false rest = rest

filter-place : {A : Type 0} (test : A → Bool) (xs : List A) (n : ℕ) (x : A) → slice_get xs n ≡ Some x → test x ≡ true
    → slice_get (filter test xs) (length (filter test (take n xs))) ≡ Some x
filter-place test [] n x is passes = absurd (cc)
filter-place test (y ∷ xs) zero x is passes =
    let same : y ≡ x = cc in
    ap (λ b. slice_get (cond b (y ∷ filter test xs) (filter test xs)) 0) (ap test same ∙ passes) ∙ ap Some same
filter-place test (y ∷ xs) (suc n) x is passes =
    later-place y x (filter test xs) (filter test (take n xs)) (test y) (filter-place test xs n x is passes)

-- the position of a tap among the taps of its source
shown-in_part : (design : DesignParts) (env : Env) (round n : ℕ) (tap : Tap) → slice_get design.taps n ≡ Some tap
    → slice_index_or (part design env tap.source.0 round).outs (taps_before design.taps n tap.source.0) []
    ≡ tuple_of (steps_of_round design env round) tap.source.0 tap.out_port
unfolding part
shown-in_part design env round n tap is =
    let node = tap.source.0 in
    let shows : Tap → List PortValue = λ (t : Tap). tuple_of (steps_of_round design env round) node t.out_port in
    let place = filter-place (λ (t : Tap). nat_eq t.source.0 node) design.taps n tap is (eq-eqb node node refl) in
    get_or_from_slice_get (map shows (taps_of design node)) (taps_before design.taps n node) (shows tap) []
    (slice_get-map shows (taps_of design node) (taps_before design.taps n node) ∙ ap (option_map shows) place)

frame-in_part : (design : DesignParts) (env : Env) (node round : ℕ) (c : Component)
    → slice_get design.components node ≡ Some c
    → (part design env node round).frame ≡ state design env node (suc round)
frame-in_part design env node round c is =
    ap (λ (p : Part). p.frame) (part_from_steps design env node round c is)
    ∙ sym (state_goes_on design env node round c is)

row_alone : (design : DesignParts) (env : Env) (replicated : List Bool) (round : ℕ)
    → ((node : ℕ) → is_replicated replicated node ≡ false)
    → tripled_lines design env replicated round ≡ composed_lines design env round
row_alone design env replicated round none =
    let frame : ℕ → ℕ → Frame = λ node replica. state design env node (suc round) in
    let part_at : ℕ → Part = λ node. part design env node round in
    ap₂ (row_of round)
    (numbered-same (λ numbered. replica_lines replicated frame numbered.0 numbered.1)
    (λ numbered. part_lines numbered.1 (Some (part_at numbered.0))) 0 design.components
    (λ k n c at is.
    let here : slice_get design.components n ≡ Some c =
    (let same : n ≡ k = omega (arith, at) in ap (slice_get design.components) same ∙ is) in
    ap (λ b. map (λ replica. component_line (replica_name c.path b replica) c.behaviour (frame n replica))
    (upwards 0 (if b then 3 else 1))) (none n)
    ∙ ap (λ (x : Frame). component_line c.path c.behaviour x ∷ []) (sym (frame-in_part design env n round c here))))
    (numbered-one (shown_line design (λ tap. tuple_of (steps_of_round design env round) tap.source.0 tap.out_port))
    (λ numbered. tap_lines design numbered.0 numbered.1 (Some (part_at numbered.1.source.0))) 0 design.taps
    (λ k n tap at is.
    let here : slice_get design.taps n ≡ Some tap =
    (let same : n ≡ k = omega (arith, at) in ap (slice_get design.taps) same ∙ is) in
    ap (λ tuple. tap_line (out_kind (slice_get design.components tap.source.0) tap.out_port) tap tuple ∷ [])
    (shown-in_part design env round n tap here)))

pub thrice_without_replicas : ThriceWithoutReplicas
thrice_without_replicas design env replicated n none =
    ap text_of (rounds-same (tripled_lines design env replicated) (composed_lines design env)
    (λ round. row_alone design env replicated round none) (upwards 0 n))
