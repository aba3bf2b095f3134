-- No line of a report has the form of a journal's line.
use Rattle.std.proofs.Common.{◌≡◌, ◌≢◌, ℕ, zero, suc, ℤ, pos, negsuc, ◌+◌, ◌/◌, ◌%◌, ◌<◌, ◌≤◌, ◌==◌, nat_eq, nat_le}
use Rattle.std.proofs.Common.{nat_lt, Bool, true, false, ◌&&◌, cond, List, [], ◌∷◌, ◌++◌, map, flat_map, zip, slice_get}
use Rattle.std.proofs.Common.{All, Option, Some, None, refl, sym, ap, ◌∙◌, subst, arith, append_assoc}
use Rattle.std.specs.Prelude.{codes, decimal, slice_index_or}
use Rattle.std.specs.List.{list_all, enumerate_from}
use Rattle.std.specs.Option.{option_and_then}
use Rattle.std.specs.Fmt.{digits, digits_onto, digit_glyph, signed_decimal}
use Rattle.std.proofs.lemmas.Bool.{ltb-false, false_from_ne_true, eqb-true}
use Rattle.std.proofs.lemmas.List.{append-nil}
use Rattle.std.proofs.lemmas.List.Elements.{All-nil, All-cons, All-head, All-tail, All-append, All-weaker}
use Rattle.std.proofs.lemmas.List.Splits.{slice_split_none, slice_split_at}
use Rattle.list_lemmas.proofs.Elements.{All-append_right}
use Rattle.pals_base.specs.declared.limits.TheConstants.{ROUNDS}
use Rattle.pals_base.specs.declared.basic_types.PortValue.{PortValue}
use Rattle.pals_base.specs.declared.basic_types.Trap.{Trap}
use Rattle.pals_base.specs.declared.basic_types.Trap.TheVariants.{Overflow, ZeroDivisor}
use Rattle.pals_base.specs.declared.frames.Frame.{Frame}
use Rattle.pals_base.specs.declared.behaviour.Kind.{Kind}
use Rattle.pals_base.specs.declared.behaviour.Kind.TheVariants.{Integer, Boolean}
use Rattle.pals_base.specs.declared.behaviour.PortDecl.{PortDecl}
use Rattle.pals_base.specs.declared.behaviour.VarDecl.{VarDecl}
use Rattle.pals_base.specs.declared.behaviour.StateDecl.{StateDecl}
use Rattle.pals_base.specs.declared.behaviour.BehaviourParts.{BehaviourParts}
use Rattle.pals_base.specs.ExpressionValues.{is_true}
use Rattle.pals_base.specs.Names.{is_word}
use Rattle.pals_base.specs.BehaviourRules.{IsBehaviour, has_word, value_names}
use Rattle.pals_base.specs.UpwardNumbers.{upwards}
use Rattle.pals_model.specs.declared.design.Component.{Component}
use Rattle.pals_model.specs.declared.design.Tap.{Tap}
use Rattle.pals_model.specs.declared.design.DesignParts.{DesignParts}
use Rattle.pals_model.specs.declared.environment.Env.{Env}
use Rattle.pals_model.specs.declared.part.Part.{Part}
use Rattle.pals_model.specs.Composition.{part}
use Rattle.pals_model.specs.PortKindsAndRates.{out_kind}
use Rattle.pals_model.specs.RoundTexts.{value_text, state_name, state_text, variable_text, vars_text, component_line}
use Rattle.pals_model.specs.RoundTexts.{tuple_text, taps_before, tap_line, round_line, part_lines, tap_lines}
use Rattle.pals_model.specs.RoundTexts.{composed_lines}
use Rattle.pals_model.specs.DesignRules.{IsDesign, IsComponent}
use Rattle.pals_model.proofs.FirstMatches.{at_element}
use Rattle.pals_model.proofs.WordBytes.{IsWithout, all_pass, word_without, path_without, other_bytes, NoSpace, no_space}
use Rattle.run_laws.specs.LineForms.{LineForm, is, is_there, spelled, round_in, words_of, with_step, arrive_line}
use Rattle.run_laws.specs.LineForms.{start_line, step_line, finish_line, send_line, drop_line, repeat_line, early_line}
use Rattle.run_laws.specs.LineForms.{missed_line, stop_line, form_of_words, form_of, named}
use Rattle.run_laws.specs.proof.ReportLines.{ReportsHaveNoForms}
use Rattle.run_laws.proofs.ReportRows.{numbered_all}

-- ---- digits
abbrev Digit : ℕ → Type 0
Digit b = (48 ≤ b) × (b ≤ 57)

glyph_by : (d : ℕ) (b : Bool) → nat_lt d 10 ≡ b → d < 10 → Digit (cond b (48 + d) (87 + d))
glyph_by d true is small = (omega arith, omega arith)
glyph_by d false is small = absurd (let over = ltb-false d 10 is in omega arith)

onto_by : (b : Bool) (one more : List ℕ) → All Digit one → All Digit more → All Digit (cond b one more)
onto_by true one more here there = here
onto_by false one more here there = there

onto : (k n : ℕ) (acc : List ℕ) → All Digit acc → All Digit (digits_onto k 10 false n acc)
onto zero n acc all = all
onto (suc k) n acc all =
    let d : Digit (digit_glyph false (n % 10)) = glyph_by (n % 10) (nat_lt (n % 10) 10) refl (omega arith) in
    let more = All-cons Digit (digit_glyph false (n % 10)) acc d all in
    onto_by (n / 10 == 0) (digit_glyph false (n % 10) ∷ acc)
    (digits_onto k 10 false (n / 10) (digit_glyph false (n % 10) ∷ acc)) more
    (onto k (n / 10) (digit_glyph false (n % 10) ∷ acc) more)

decimal_digits : (n : ℕ) → All Digit (decimal n)
unfolding digits
decimal_digits n = onto 64 n [] (All-nil Digit)

-- ---- words without a space
digit_no_space : (b : ℕ) → Digit b → nat_eq 32 b ≡ false
digit_no_space b range =
    false_from_ne_true (nat_eq 32 b) (λ same. let here : 32 ≡ b = eqb-true 32 b same in absurd (omega (arith, range.0)))

without_no_space : (word : List ℕ) → IsWithout 32 word → NoSpace word
without_no_space word without =
    All-weaker (λ b. b ≢ 32) (λ b. nat_eq 32 b ≡ false)
    (λ b other. false_from_ne_true (nat_eq 32 b) (λ same. other (sym (eqb-true 32 b same)))) word without

number_no_space : (n : ℕ) → NoSpace (decimal n)
number_no_space n = All-weaker Digit (λ b. nat_eq 32 b ≡ false) digit_no_space (decimal n) (decimal_digits n)

signed_no_space : (v : ℤ) → NoSpace (signed_decimal v)
signed_no_space (pos n) = number_no_space n
signed_no_space (negsuc n) = All-cons (λ b. nat_eq 32 b ≡ false) 45 (decimal (suc n)) refl (number_no_space (suc n))

truth_no_space : (b : Bool) → NoSpace (cond b (codes "true") (codes "false"))
truth_no_space true = no_space (codes "true") refl
truth_no_space false = no_space (codes "false") refl

value_no_space : (kind : Kind) (v : ℤ) → NoSpace (value_text kind v)
value_no_space Integer v = signed_no_space v
value_no_space Boolean v = truth_no_space (is_true v)

-- ---- a word with `=` is not a number
within_append : (P : ℕ → Type 0) (xs : List ℕ) (y : ℕ) (ys : List ℕ) → All P (xs ++ y ∷ ys) → P y
within_append P [] y ys all = All-head P y ys all
within_append P (x ∷ xs) y ys all = within_append P xs y ys (All-tail P x (xs ++ y ∷ ys) all)

abbrev chunk : VarDecl × ℤ → List ℕ
chunk p = p.0.name ++ (61 ∷ value_text p.0.kind p.1)

variable_is : (p : VarDecl × ℤ) → variable_text p.0 p.1 ≡ 32 ∷ chunk p
variable_is p = ap (λ xs. 32 ∷ xs) (append_assoc p.0.name (61 ∷ []) (value_text p.0.kind p.1))

chunk_is_no_round : (p : VarDecl × ℤ) → round_in (chunk p) ≡ None
chunk_is_no_round p =
    let w = chunk p in
    let n = spelled w in
    let other : is w (decimal n) ≡ false =
    other_bytes w (decimal n)
    (λ same. let range = within_append Digit p.0.name 61 (value_text p.0.kind p.1)
    (subst (All Digit) (sym same) (decimal_digits n)) in absurd (omega (arith, range.1))) in
    ap (λ b. cond (b && nat_le n ROUNDS) (Some n) None) other

-- ---- lines without a form
none_if : (b : Bool) (x y : Option LineForm) → x ≡ None → y ≡ None → cond b x y ≡ None
none_if true x y left right = left
none_if false x y left right = right

abbrev AreBad : List (List ℕ) → Type 0
AreBad words = All (λ word. round_in word ≡ None) words

named_none : (name : List ℕ) (rest : List (List ℕ)) (go : List ℕ → ℕ → List (List ℕ) → Option LineForm) → AreBad rest
    → named (name ∷ rest) go ≡ None
named_none name [] go bad = refl
named_none name (word ∷ rest) go bad =
    ap (option_and_then (λ r. go name r rest)) (All-head (λ w. round_in w ≡ None) word rest bad)

behind_none : (rest : List (List ℕ)) (go : List ℕ → ℕ → List (List ℕ) → Option LineForm) → AreBad rest
    → named rest go ≡ None
behind_none [] go bad = refl
behind_none (word ∷ rest) go bad = named_none word rest go (All-tail (λ w. round_in w ≡ None) word rest bad)

stop_none : (second : List ℕ) (rest : List (List ℕ)) → AreBad rest → stop_line (second ∷ rest) ≡ None
stop_none second rest bad =
    none_if (is second (codes "early")) (early_line rest) (cond (is second (codes "missed")) (missed_line rest) None)
    (behind_none rest _ bad)
    (none_if (is second (codes "missed")) (missed_line rest) None (behind_none rest _ bad) refl)

-- a second word may be a name, and then a number is to come
words_none : (first second : List ℕ) (rest : List (List ℕ)) → AreBad rest → form_of_words (first ∷ second ∷ rest) ≡ None
words_none first second rest bad =
    let words = second ∷ rest in
    let by_stop = none_if (is first (codes "stop")) (stop_line words) None (stop_none second rest bad) refl in
    let by_repeat = none_if (is first (codes "repeat")) (repeat_line words) _ (named_none second rest _ bad) by_stop in
    let by_drop = none_if (is first (codes "drop")) (drop_line words) _ (named_none second rest _ bad) by_repeat in
    let by_send = none_if (is first (codes "send")) (send_line words) _ (named_none second rest _ bad) by_drop in
    let by_finish = none_if (is first (codes "finish")) (finish_line words) _ (named_none second rest _ bad) by_send in
    let by_step =
    none_if (is first (codes "step")) (step_line words) _ (named_none second rest with_step bad) by_finish in
    let by_start = none_if (is first (codes "start")) (start_line words) _ (named_none second rest _ bad) by_step in
    none_if (is first (codes "arrive")) (arrive_line words) _ (named_none second rest _ bad) by_start

both_none : (b : Bool) → cond {A = Option LineForm} b None None ≡ None
both_none true = refl
both_none false = refl

form_none : (line : List ℕ) (words : List (List ℕ)) → words_of line ≡ words → form_of_words words ≡ None
    → form_of line ≡ None
form_none line words are none =
    ap (λ ws. cond (list_all is_there ws) (form_of_words ws) None) are
    ∙ ap (λ o. cond (list_all is_there words) o None) none ∙ both_none (list_all is_there words)

-- ---- the lines of a row
round_none : (round : ℕ) → form_of (round_line round) ≡ None
round_none round =
    form_none (round_line round) (codes "round" ∷ words_of (decimal round))
    (slice_split_at (nat_eq 32) (codes "round") 32 (decimal round) (no_space (codes "round") refl) refl) refl

root_none : (rest : List ℕ) → form_of (codes "out " ++ rest) ≡ None
root_none rest =
    form_none (codes "out " ++ rest) (codes "out" ∷ words_of rest)
    (slice_split_at (nat_eq 32) (codes "out") 32 rest (no_space (codes "out") refl) refl) refl

split_vars : (front : List ℕ) (ps : List (VarDecl × ℤ)) → NoSpace front → All (λ p. NoSpace (chunk p)) ps
    → words_of (front ++ flat_map (λ p. variable_text p.0 p.1) ps) ≡ front ∷ map chunk ps
split_vars front [] plain all = ap words_of (append-nil front) ∙ slice_split_none (nat_eq 32) front plain
split_vars front (p ∷ ps) plain all =
    ap (λ t. words_of (front ++ (t ++ flat_map (λ q. variable_text q.0 q.1) ps))) (variable_is p)
    ∙ slice_split_at (nat_eq 32) front 32 (chunk p ++ flat_map (λ q. variable_text q.0 q.1) ps) plain refl
    ∙ ap (λ ws. front ∷ ws) (split_vars (chunk p) ps (All-head (λ q. NoSpace (chunk q)) p ps all)
    (All-tail (λ q. NoSpace (chunk q)) p ps all))

bad_chunks : (ps : List (VarDecl × ℤ)) → AreBad (map chunk ps)
bad_chunks [] = All-nil (λ w. round_in w ≡ None)
bad_chunks (p ∷ ps) = All-cons (λ w. round_in w ≡ None) (chunk p) (map chunk ps) (chunk_is_no_round p) (bad_chunks ps)

chunks_plain : (vars : List VarDecl) (values : List ℤ) → All (λ (v : VarDecl). NoSpace v.name) vars
    → All (λ p. NoSpace (chunk p)) (zip vars values)
chunks_plain [] values all = All-nil (λ p. NoSpace (chunk p))
chunks_plain (v ∷ vars) [] all = All-nil (λ p. NoSpace (chunk p))
chunks_plain (v ∷ vars) (x ∷ values) all =
    All-cons (λ p. NoSpace (chunk p)) (v, x) (zip vars values)
    (All-append (λ b. nat_eq 32 b ≡ false) v.name (61 ∷ value_text v.kind x)
    (All-head (λ (w : VarDecl). NoSpace w.name) v vars all)
    (All-cons (λ b. nat_eq 32 b ≡ false) 61 (value_text v.kind x) refl (value_no_space v.kind x)))
    (chunks_plain vars values (All-tail (λ (w : VarDecl). NoSpace w.name) v vars all))

component_none : (name : List ℕ) (b : BehaviourParts) (frame : Frame) → NoSpace name
    → NoSpace (state_text b frame frame.halt) → All (λ (v : VarDecl). NoSpace v.name) b.vars
    → form_of (component_line name b frame) ≡ None
component_none name b frame plain state vars =
    let ps = zip b.vars frame.vars in
    form_none (component_line name b frame) (name ∷ state_text b frame frame.halt ∷ map chunk ps)
    (ap words_of (append_assoc (name ++ codes " ") (state_text b frame frame.halt) (vars_text b.vars frame.vars)
    ∙ append_assoc name (codes " ") (state_text b frame frame.halt ++ vars_text b.vars frame.vars))
    ∙ slice_split_at (nat_eq 32) name 32 (state_text b frame frame.halt ++ vars_text b.vars frame.vars) plain refl
    ∙ ap (λ ws. name ∷ ws) (split_vars (state_text b frame frame.halt) ps state
    (chunks_plain b.vars frame.vars vars)))
    (words_none name (state_text b frame frame.halt) (map chunk ps) (bad_chunks ps))

-- ---- names
name_plain : (name : List ℕ) → is_word name ≡ true → NoSpace name
name_plain name word = without_no_space name (word_without 32 name refl word)

state_by : (states : List StateDecl) (k : ℕ) (o : Option StateDecl) → slice_get states k ≡ o
    → All (λ s. has_word s ≡ true) states → NoSpace (state_name o)
state_by states k None is all = All-nil (λ b. nat_eq 32 b ≡ false)
state_by states k (Some s) is all = name_plain s.name (at_element (λ t. has_word t ≡ true) states k s all is)

state_plain : (b : BehaviourParts) (frame : Frame) (halt : Option Trap) → All (λ s. has_word s ≡ true) b.states
    → NoSpace (state_text b frame halt)
state_plain b frame None all = state_by b.states frame.state (slice_get b.states frame.state) refl all
state_plain b frame (Some Overflow) all = no_space (codes "halted(overflow)") refl
state_plain b frame (Some ZeroDivisor) all = no_space (codes "halted(zero-divisor)") refl

vars_plain : (vars : List VarDecl) → All (λ name. is_word name ≡ true) (map (λ (v : VarDecl). v.name) vars)
    → All (λ (v : VarDecl). NoSpace v.name) vars
vars_plain [] all = All-nil (λ (v : VarDecl). NoSpace v.name)
vars_plain (v ∷ vars) all =
    All-cons (λ (w : VarDecl). NoSpace w.name) v vars
    (name_plain v.name (All-head (λ name. is_word name ≡ true) v.name (map (λ (w : VarDecl). w.name) vars) all))
    (vars_plain vars (All-tail (λ name. is_word name ≡ true) v.name (map (λ (w : VarDecl). w.name) vars) all))

-- the names of ports and variables group to the left
named_vars : (ins outs vars : List (List ℕ)) → All (λ name. is_word name ≡ true) (ins ++ outs ++ vars)
    → All (λ name. is_word name ≡ true) vars
named_vars ins outs vars all = All-append_right (λ name. is_word name ≡ true) (ins ++ outs) vars all

behaviour_vars : (b : BehaviourParts) → IsBehaviour b → All (λ (v : VarDecl). NoSpace v.name) b.vars
behaviour_vars b rules =
    let ins = map (λ (q : PortDecl). q.name) b.ins in
    let outs = map (λ (q : PortDecl). q.name) b.outs in
    let vars = map (λ (v : VarDecl). v.name) b.vars in
    let all = all_pass is_word (value_names b) rules.names.values in
    vars_plain b.vars (named_vars ins outs vars all)

-- ---- a row, and a report
all_flat : {X : Type 0} (P : List ℕ → Type 0) (g : X → List (List ℕ)) (xs : List X) → All (λ x. All P (g x)) xs
    → All P (flat_map g xs)
all_flat P g [] all = All-nil P
all_flat P g (x ∷ xs) all =
    All-append P (g x) (flat_map g xs) (All-head (λ y. All P (g y)) x xs all)
    (all_flat P g xs (All-tail (λ y. All P (g y)) x xs all))

abbrev NoForm : List ℕ → Type 0
NoForm line = form_of line ≡ None

one : (line : List ℕ) → NoForm line → All NoForm (line ∷ [])
one line none = All-cons NoForm line [] none (All-nil NoForm)

of_component : (design : DesignParts) (env : Env) (round node : ℕ) (c : Component) → IsDesign design
    → slice_get design.components node ≡ Some c → All NoForm (part_lines c (Some (part design env node round)))
of_component design env round node c rules is =
    let rule = at_element (IsComponent design.period) design.components node c rules.components.each is in
    let frame = (part design env node round).frame in
    one (component_line c.path c.behaviour frame)
    (component_none c.path c.behaviour frame
    (without_no_space c.path (path_without 32 c.path (λ same. absurd (omega (arith, same))) refl rule.path))
    (state_plain c.behaviour frame frame.halt (all_pass has_word c.behaviour.states rule.behaviour.names.states))
    (behaviour_vars c.behaviour rule.behaviour))

tap_none : (kind : Kind) (tap : Tap) (tuple : List PortValue) → form_of (tap_line kind tap tuple) ≡ None
tap_none kind tap tuple = root_none (tap.name ++ codes " " ++ tuple_text kind tuple)

of_tap : (design : DesignParts) (number : ℕ) (tap : Tap) (p : Part) → All NoForm (tap_lines design number tap (Some p))
of_tap design number tap p =
    let kind = out_kind (slice_get design.components tap.source.0) tap.out_port in
    let tuple = slice_index_or p.outs (taps_before design.taps number tap.source.0) [] in
    one (tap_line kind tap tuple) (tap_none kind tap tuple)

row_none : (design : DesignParts) (env : Env) (round : ℕ) → IsDesign design
    → All NoForm (composed_lines design env round)
row_none design env round rules =
    let components = λ (numbered : ℕ × Component). part_lines numbered.1 (Some (part design env numbered.0 round)) in
    let taps =
    λ (numbered : ℕ × Tap). tap_lines design numbered.0 numbered.1
    (Some (part design env numbered.1.source.0 round)) in
    All-cons NoForm (round_line round)
    (flat_map components (enumerate_from 0 design.components) ++ flat_map taps (enumerate_from 0 design.taps))
    (round_none round)
    (All-append NoForm (flat_map components (enumerate_from 0 design.components))
    (flat_map taps (enumerate_from 0 design.taps))
    (all_flat NoForm components (enumerate_from 0 design.components)
    (numbered_all (λ numbered. All NoForm (components numbered)) 0 design.components
    (λ i c is. let here : 0 + i ≡ i = omega arith in
    subst (λ k. All NoForm (components (k, c))) (sym here) (of_component design env round i c rules is))))
    (all_flat NoForm taps (enumerate_from 0 design.taps)
    (numbered_all (λ numbered. All NoForm (taps numbered)) 0 design.taps
    (λ i t is. of_tap design (0 + i) t (part design env t.source.0 round)))))

rows_none : (design : DesignParts) (env : Env) (round more : ℕ) → IsDesign design
    → All NoForm (flat_map (composed_lines design env) (upwards round more))
rows_none design env round zero rules = All-nil NoForm
rows_none design env round (suc more) rules =
    All-append NoForm (composed_lines design env round)
    (flat_map (composed_lines design env) (upwards (suc round) more)) (row_none design env round rules)
    (rows_none design env (suc round) more rules)

pub reports_have_no_forms : ReportsHaveNoForms
reports_have_no_forms design env rounds rules = rows_none design env 0 rounds rules
