-- Why the laws of lines hold.
use Rattle.std.proofs.Common.{◌≡◌, ◌≢◌, ℕ, zero, suc, ◌+◌, ◌/◌, ◌%◌, Bool, true, false, not, ℤ, pos, negsuc, ◌==◌}
use Rattle.std.proofs.Common.{nat_eq, nat_lt, if◌then◌else◌, List, [], ◌∷◌, ◌++◌, map, flat_map, slice_get, Some, None}
use Rattle.std.proofs.Common.{◌<◌, length, All, refl, sym, ap, ap₂, ◌∙◌, arith, append_assoc, ne_eqb}
use Rattle.std.specs.Prelude.{Option, codes, decimal}
use Rattle.std.specs.List.{list_all, enumerate_from, slice_split}
use Rattle.std.specs.Fmt.{digits, digits_onto, digit_glyph, signed_decimal}
use Rattle.std.proofs.lemmas.Bool.{and_parts}
use Rattle.std.proofs.lemmas.List.Elements.{All-nil, All-cons, All-append, All-head, All-tail, All-weaker}
use Rattle.std.proofs.lemmas.List.Folds.{list_all-append, list_all-map}
use Rattle.std.proofs.lemmas.List.Splits.{slice_split_at}
use Rattle.std.proofs.lemmas.Grind.{flat_map-append}
use Rattle.list_lemmas.proofs.Numbers.{digit-at_least}
use Rattle.pals_base.specs.declared.basic_types.PortValue.{PortValue}
use Rattle.pals_base.specs.declared.basic_types.PortValue.TheVariants.{Absent, Present}
use Rattle.pals_base.specs.declared.frames.Frame.{Frame}
use Rattle.pals_base.specs.declared.basic_types.Trap.{Trap}
use Rattle.pals_base.specs.declared.basic_types.Trap.TheVariants.{Overflow, ZeroDivisor}
use Rattle.pals_base.specs.declared.behaviour.Kind.{Kind}
use Rattle.pals_base.specs.declared.behaviour.Kind.TheVariants.{Integer, Boolean}
use Rattle.pals_base.specs.declared.behaviour.PortDecl.{PortDecl}
use Rattle.pals_base.specs.declared.behaviour.VarDecl.{VarDecl}
use Rattle.pals_base.specs.declared.behaviour.StateDecl.{StateDecl}
use Rattle.pals_base.specs.declared.behaviour.BehaviourParts.{BehaviourParts}
use Rattle.pals_base.specs.ExpressionValues.{is_true}
use Rattle.pals_base.specs.Names.{is_word}
use Rattle.pals_base.specs.BehaviourRules.{IsBehaviour, has_word}
use Rattle.pals_base.specs.UpwardNumbers.{upwards}
use Rattle.pals_model.specs.declared.design.Component.{Component}
use Rattle.pals_model.specs.declared.design.Tap.{Tap}
use Rattle.pals_model.specs.declared.design.DesignParts.{DesignParts}
use Rattle.pals_model.specs.declared.environment.Env.{Env}
use Rattle.pals_model.specs.declared.part.Part.{Part}
use Rattle.pals_model.specs.Composition.{part}
use Rattle.pals_model.specs.RoundTexts.{text_of, value_text, port_text, with_commas, tuple_text, state_name, state_text}
use Rattle.pals_model.specs.RoundTexts.{variable_text, vars_text, component_line, tap_line, round_line, part_lines}
use Rattle.pals_model.specs.RoundTexts.{tap_lines, composed_lines, report_lines, is_line_feed, line_end, row_lines}
use Rattle.pals_model.specs.DesignRules.{IsDesign, IsComponent, IsTap}
use Rattle.pals_model.specs.proof.CompositionLaws.TextLines.{IsLine, RowHasLines, ReportHasLines, TextSplits, RowSplits}
use Rattle.pals_model.specs.proof.CompositionLaws.TextLines.{ReportSplits}
use Rattle.pals_model.proofs.FirstMatches.{at_element}
use Rattle.pals_model.proofs.WordBytes.{all_pass, word_without, path_without}

-- ---- pieces of lines
none : IsLine []
none = All-nil (λ byte. byte ≢ 10)

join : (xs ys : List ℕ) → IsLine xs → IsLine ys → IsLine (xs ++ ys)
join xs ys left right = All-append (λ byte. byte ≢ 10) xs ys left right

other_byte : (byte : ℕ) → not (nat_eq byte 10) ≡ true → byte ≢ 10
other_byte byte passes same = let both : false ≡ true = sym (ap (λ b. not (nat_eq b 10)) same) ∙ passes in absurd (cc)

-- a text that is written out
plain : (text : List ℕ) → list_all (λ byte. not (nat_eq byte 10)) text ≡ true → IsLine text
plain text passes =
    All-weaker (λ byte. not (nat_eq byte 10) ≡ true) (λ byte. byte ≢ 10) other_byte text
    (all_pass (λ byte. not (nat_eq byte 10)) text passes)

word : (name : List ℕ) → is_word name ≡ true → IsLine name
word name is = word_without 10 name refl is

-- ---- numbers

digit_or : (b : Bool) (one more : List ℕ) → IsLine one → IsLine more → IsLine (if b then one else more)
digit_or true one more here there = here
digit_or false one more here there = there

digit_other : (d : ℕ) → digit_glyph false d ≢ 10
digit_other d same = let least = digit-at_least (nat_lt d 10) d in absurd (omega (arith, least, same))

onto : (k base n : ℕ) (acc : List ℕ) → IsLine acc → IsLine (digits_onto k base false n acc)
onto zero base n acc line = line
onto (suc k) base n acc line =
    let more = All-cons (λ byte. byte ≢ 10) (digit_glyph false (n % base)) acc (digit_other (n % base)) line in
    digit_or (n / base == 0) (digit_glyph false (n % base) ∷ acc)
    (digits_onto k base false (n / base) (digit_glyph false (n % base) ∷ acc)) more
    (onto k base (n / base) (digit_glyph false (n % base) ∷ acc) more)

number : (n : ℕ) → IsLine (decimal n)
unfolding digits
number n = onto 64 10 n [] none

signed : (v : ℤ) → IsLine (signed_decimal v)
signed (pos n) = number n
signed (negsuc n) = join (45 ∷ []) (decimal (suc n)) (plain (45 ∷ []) refl) (number (suc n))

-- ---- values
either : (b : Bool) → IsLine (if b then codes "true" else codes "false")
either true = plain (codes "true") refl
either false = plain (codes "false") refl

value : (kind : Kind) (v : ℤ) → IsLine (value_text kind v)
value Integer v = signed v
value Boolean v = either (is_true v)

port : (kind : Kind) (p : PortValue) → IsLine (port_text kind p)
port kind Absent = plain (codes "_") refl
port kind (Present v) = value kind v

commas : (kind : Kind) (tuple : List PortValue) → IsLine (with_commas (map (port_text kind) tuple))
commas kind [] = none
commas kind (p ∷ []) = port kind p
commas kind (p ∷ q ∷ ps) =
    join (port_text kind p ++ codes ",") (with_commas (map (port_text kind) (q ∷ ps)))
    (join (port_text kind p) (codes ",") (port kind p) (plain (codes ",") refl)) (commas kind (q ∷ ps))

tuple : (kind : Kind) (ps : List PortValue) → IsLine (tuple_text kind ps)
tuple kind ps =
    join (codes "(" ++ with_commas (map (port_text kind) ps)) (codes ")")
    (join (codes "(") (with_commas (map (port_text kind) ps)) (plain (codes "(") refl) (commas kind ps))
    (plain (codes ")") refl)

-- ---- components
state : (b : BehaviourParts) (frame : Frame) (halt : Option Trap) → IsBehaviour b → IsLine (state_text b frame halt)
state b frame None rules = by (slice_get b.states frame.state) refl
  where
    by : (s : Option StateDecl) → slice_get b.states frame.state ≡ s → IsLine (state_name s)
    by None is = none
    by (Some s) is =
        word s.name (at_element (λ t. has_word t ≡ true) b.states frame.state s
        (all_pass has_word b.states rules.names.states) is)
state b frame (Some Overflow) rules = plain (codes "halted(overflow)") refl
state b frame (Some ZeroDivisor) rules = plain (codes "halted(zero-divisor)") refl

variable : (var : VarDecl) (v : ℤ) → IsLine var.name → IsLine (variable_text var v)
variable var v named =
    join (codes " " ++ var.name ++ codes "=") (value_text var.kind v)
    (join (codes " " ++ var.name) (codes "=") (join (codes " ") var.name (plain (codes " ") refl) named)
    (plain (codes "=") refl)) (value var.kind v)

variables : (vars : List VarDecl) (values : List ℤ) → All (λ (var : VarDecl). IsLine var.name) vars
    → IsLine (vars_text vars values)
variables [] values named = none
variables (var ∷ vars) [] named = none
variables (var ∷ vars) (v ∷ vs) named =
    join (variable_text var v) (vars_text vars vs)
    (variable var v (All-head (λ (x : VarDecl). IsLine x.name) var vars named))
    (variables vars vs (All-tail (λ (x : VarDecl). IsLine x.name) var vars named))

variables_named : (b : BehaviourParts) → IsBehaviour b → All (λ (var : VarDecl). IsLine var.name) b.vars
variables_named b rules =
    let ports = map (λ (p : PortDecl). p.name) b.ins ++ map (λ (p : PortDecl). p.name) b.outs in
    let names = map (λ (v : VarDecl). v.name) b.vars in
    let words =
    (and_parts (list_all is_word ports) (list_all is_word names)
    (sym (list_all-append is_word ports names) ∙ rules.names.values)).1 in
    All-weaker (λ (v : VarDecl). is_word v.name ≡ true) (λ (v : VarDecl). IsLine v.name) (λ v is. word v.name is) b.vars
    (all_pass (λ (v : VarDecl). is_word v.name) b.vars
    (sym (list_all-map is_word (λ (v : VarDecl). v.name) b.vars) ∙ words))

component : (name : List ℕ) (b : BehaviourParts) (frame : Frame) → IsLine name → IsBehaviour b
    → IsLine (component_line name b frame)
component name b frame named rules =
    join (name ++ codes " " ++ state_text b frame frame.halt) (vars_text b.vars frame.vars)
    (join (name ++ codes " ") (state_text b frame frame.halt) (join name (codes " ") named (plain (codes " ") refl))
    (state b frame frame.halt rules))
    (variables b.vars frame.vars (variables_named b rules))

tap : (kind : Kind) (t : Tap) (ps : List PortValue) → is_word t.name ≡ true → IsLine (tap_line kind t ps)
tap kind t ps is =
    join (codes "out " ++ t.name ++ codes " ") (tuple_text kind ps)
    (join (codes "out " ++ t.name) (codes " ")
    (join (codes "out ") t.name (plain (codes "out ") refl) (word t.name is)) (plain (codes " ") refl))
    (tuple kind ps)

-- ---- rows
component_lines : (period : ℕ) (part_of : ℕ → Option Part) (k : ℕ) (cs : List Component) → All (IsComponent period) cs
    → All IsLine (flat_map (λ numbered. part_lines numbered.1 (part_of numbered.0)) (enumerate_from k cs))
component_lines period part_of k [] sound = All-nil IsLine
component_lines period part_of k (c ∷ cs) sound =
    let here : IsComponent period c = All-head (IsComponent period) c cs sound in
    All-append IsLine (part_lines c (part_of k))
    (flat_map (λ numbered. part_lines numbered.1 (part_of numbered.0)) (enumerate_from (k + 1) cs))
    (by here (part_of k))
    (component_lines period part_of (k + 1) cs (All-tail (IsComponent period) c cs sound))
  where
    by : IsComponent period c → (o : Option Part) → All IsLine (part_lines c o)
    by here None = All-nil IsLine
    by here (Some p) =
        All-cons IsLine (component_line c.path c.behaviour p.frame) []
        (component c.path c.behaviour p.frame
        (path_without 10 c.path (λ same. absurd (omega (arith, same))) refl here.path) here.behaviour)
        (All-nil IsLine)

taps_lines : (design : DesignParts) (part_of : ℕ → Option Part) (k : ℕ) (ts : List Tap) → All (IsTap design) ts
    → All IsLine (flat_map (λ numbered. tap_lines design numbered.0 numbered.1 (part_of numbered.1.source.0))
    (enumerate_from k ts))
taps_lines design part_of k [] sound = All-nil IsLine
taps_lines design part_of k (t ∷ ts) sound =
    let here : IsTap design t = All-head (IsTap design) t ts sound in
    All-append IsLine (tap_lines design k t (part_of t.source.0))
    (flat_map (λ numbered. tap_lines design numbered.0 numbered.1 (part_of numbered.1.source.0))
    (enumerate_from (k + 1) ts)) (by here (part_of t.source.0))
    (taps_lines design part_of (k + 1) ts (All-tail (IsTap design) t ts sound))
  where
    by : IsTap design t → (o : Option Part) → All IsLine (tap_lines design k t o)
    by here None = All-nil IsLine
    by here (Some p) = All-cons IsLine _ [] (tap _ t _ here.name) (All-nil IsLine)

pub row_has_lines : RowHasLines
row_has_lines design part_of round rules =
    let shown =
    flat_map (λ numbered. part_lines numbered.1 (part_of numbered.0)) (enumerate_from 0 design.components) in
    let tapped =
    flat_map (λ numbered. tap_lines design numbered.0 numbered.1 (part_of numbered.1.source.0))
    (enumerate_from 0 design.taps) in
    All-cons IsLine (round_line round) (shown ++ tapped)
    (join (codes "round ") (decimal round) (plain (codes "round ") refl) (number round))
    (All-append IsLine shown tapped (component_lines design.period part_of 0 design.components rules.components.each)
    (taps_lines design part_of 0 design.taps rules.taps.each))

rows_have_lines : (design : DesignParts) (env : Env) (rounds : List ℕ) → IsDesign design
    → All IsLine (flat_map (composed_lines design env) rounds)
rows_have_lines design env [] rules = All-nil IsLine
rows_have_lines design env (round ∷ rounds) rules =
    All-append IsLine (composed_lines design env round) (flat_map (composed_lines design env) rounds)
    (row_has_lines design (λ node. Some (part design env node round)) round rules)
    (rows_have_lines design env rounds rules)

pub report_has_lines : ReportHasLines
report_has_lines design env n rules = rows_have_lines design env (upwards 0 n) rules

-- ---- texts
pub text_of-append : (xs ys : List (List ℕ)) → text_of (xs ++ ys) ≡ text_of xs ++ text_of ys
text_of-append xs ys = flat_map-append (λ line. line ++ line_end) xs ys

pub text_splits : TextSplits
text_splits [] each = refl
text_splits (line ∷ lines) each =
    ap (slice_split is_line_feed) (append_assoc line (10 ∷ []) (text_of lines))
    ∙ slice_split_at is_line_feed line 10 (text_of lines)
    (All-weaker (λ byte. byte ≢ 10) (λ byte. is_line_feed byte ≡ false) (λ byte other. ne_eqb byte 10 other) line
    (All-head IsLine line lines each)) refl
    ∙ ap (λ rest. line ∷ rest) (text_splits lines (All-tail IsLine line lines each))

pub row_splits : RowSplits
row_splits design env round rules =
    text_splits (composed_lines design env round)
    (row_has_lines design (λ node. Some (part design env node round)) round rules)

pub report_splits : ReportSplits
report_splits design env n rules = text_splits (report_lines design env n) (report_has_lines design env n rules)

-- ---- rows of the same parts
same_part_lines : (f g : ℕ → Option Part) (from : ℕ) (components : List Component)
    → ((k : ℕ) → k < from + length components → f k ≡ g k)
    → flat_map (λ numbered. part_lines numbered.1 (f numbered.0)) (enumerate_from from components)
    ≡ flat_map (λ numbered. part_lines numbered.1 (g numbered.0)) (enumerate_from from components)
same_part_lines f g from [] same = refl
same_part_lines f g from (c ∷ components) same =
    ap₂ (λ x xs. x ++ xs) (ap (part_lines c) (same from (omega arith)))
    (same_part_lines f g (from + 1) components (λ k below. same k (omega arith)))

same_tap_lines : (design : DesignParts) (f g : ℕ → Option Part) (from : ℕ) (taps : List Tap) → All (IsTap design) taps
    → ((k : ℕ) → k < length design.components → f k ≡ g k)
    → flat_map (λ numbered. tap_lines design numbered.0 numbered.1 (f numbered.1.source.0)) (enumerate_from from taps)
    ≡ flat_map (λ numbered. tap_lines design numbered.0 numbered.1 (g numbered.1.source.0))
    (enumerate_from from taps)
same_tap_lines design f g from [] rules same = refl
same_tap_lines design f g from (tap ∷ taps) rules same =
    ap₂ (λ x xs. x ++ xs) (ap (tap_lines design from tap)
    (same tap.source.0 (All-head (IsTap design) tap taps rules).source.node_is))
    (same_tap_lines design f g (from + 1) taps (All-tail (IsTap design) tap taps rules) same)

pub same_row : (design : DesignParts) (f g : ℕ → Option Part) (round : ℕ) → IsDesign design
    → ((k : ℕ) → k < length design.components → f k ≡ g k) → row_lines design f round ≡ row_lines design g round
same_row design f g round rules same =
    ap₂ (λ parts taps. round_line round ∷ parts ++ taps)
    (same_part_lines f g 0 design.components (λ k below. same k (omega arith)))
    (same_tap_lines design f g 0 design.taps rules.taps.each same)
