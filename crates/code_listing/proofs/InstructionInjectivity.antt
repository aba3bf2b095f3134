-- The lines of a code determine its instructions.
use Rattle.std.proofs.Common.{◌≡◌, ℕ, ◌+◌, ◌^◌, ◌<◌, Bool, true, if◌then◌else◌, List, [], ◌∷◌, map, All, refl, sym, ap}
use Rattle.std.proofs.Common.{ap₂, ◌∙◌, arith}
use Rattle.std.specs.Prelude.{codes, decimal, bytes_eq, slice_index_or}
use Rattle.std.specs.List.{enumerate_from}
use Rattle.std.proofs.lemmas.List.Elements.{All-head, All-tail}
use Rattle.pals_base.specs.declared.behaviour.BehaviourParts.{BehaviourParts}
use Rattle.step_code.specs.declared.instr.Instr.{Instr}
use Rattle.code_listing.specs.Listings.{mnemonic, operands, instr_line, instr_lines}
use Rattle.code_listing.specs.NumberRanges.{InstrFits}
use Rattle.code_listing.proofs.LinesAndWords.{is_plain, ArePlain, same_words, decimal_plain, signed_plain}
use Rattle.code_listing.proofs.PlainNames.{HasPlainNames, port_plain, state_plain, slot_plain}
use Rattle.code_listing.proofs.SpelledNumbers.{spelled, spelled_is, signed_spelled, signed_is}
use Rattle.step_code.specs.declared.instr.Instr.TheVariants as instr

-- ---- an instruction, read from its words
abbrev number_at : List (List ℕ) → ℕ → ℕ
number_at words k = spelled (slice_index_or words k [])

abbrev is : List ℕ → List ℕ → Bool
is word other = bytes_eq word other

abbrev told_by : List ℕ → List (List ℕ) → Instr
told_by name words =
    if is name (codes "Push") then instr.Push (signed_spelled (slice_index_or words 0 []))
    else if is name (codes "Load") then instr.Load (number_at words 0)
    else if is name (codes "Store") then instr.Store (number_at words 0)
    else if is name (codes "Port") then instr.Port (number_at words 0)
    else if is name (codes "Fresh") then instr.Fresh (number_at words 0)
    else if is name (codes "Neg") then instr.Neg
    else if is name (codes "Abs") then instr.Abs
    else if is name (codes "Not") then instr.Not
    else if is name (codes "Add") then instr.Add
    else if is name (codes "Sub") then instr.Sub
    else if is name (codes "Mul") then instr.Mul
    else if is name (codes "Quot") then instr.Quot
    else if is name (codes "Mod") then instr.Mod
    else if is name (codes "Rem") then instr.Rem
    else if is name (codes "Eq") then instr.Eq
    else if is name (codes "Ne") then instr.Ne
    else if is name (codes "Lt") then instr.Lt
    else if is name (codes "Le") then instr.Le
    else if is name (codes "Gt") then instr.Gt
    else if is name (codes "Ge") then instr.Ge
    else if is name (codes "And") then instr.And
    else if is name (codes "Or") then instr.Or
    else if is name (codes "Xor") then instr.Xor
    else if is name (codes "Jump") then instr.Jump (number_at words 0)
    else if is name (codes "JumpZero") then instr.JumpZero (number_at words 0)
    else if is name (codes "LoopStart") then instr.LoopStart (number_at words 0)
    (signed_spelled (slice_index_or words 2 [])) (signed_spelled (slice_index_or words 3 [])) (number_at words 4)
    else if is name (codes "LoopNext") then instr.LoopNext (number_at words 0)
    (signed_spelled (slice_index_or words 2 [])) (number_at words 3)
    else if is name (codes "Emit") then instr.Emit (number_at words 0)
    else instr.End (number_at words 0)

read : (n : ℕ) → n < 2 ^ 32 → spelled (decimal n) ≡ n
read n small = spelled_is n (omega arith)

told_is : (b : BehaviourParts) (i : Instr) → InstrFits i → told_by (mnemonic i) (operands b i) ≡ i
told_is b (instr.Push n) bits = ap (λ z. instr.Push z) (signed_is n bits)
told_is b (instr.Load slot) bits = ap (λ n. instr.Load n) (read slot bits)
told_is b (instr.Store slot) bits = ap (λ n. instr.Store n) (read slot bits)
told_is b (instr.Port port) bits = ap (λ n. instr.Port n) (read port bits)
told_is b (instr.Fresh port) bits = ap (λ n. instr.Fresh n) (read port bits)
told_is b (instr.Jump to) bits = ap (λ n. instr.Jump n) (read to bits)
told_is b (instr.JumpZero to) bits = ap (λ n. instr.JumpZero n) (read to bits)
told_is b (instr.LoopStart slot low high exit) bits =
    let at = read slot bits.0 in
    let least = signed_is low bits.1 in
    let most = signed_is high bits.2 in
    let out = read exit bits.3 in
    λ k. instr.LoopStart (at k) (least k) (most k) (out k)
told_is b (instr.LoopNext slot high to) bits =
    let at = read slot bits.0 in
    let most = signed_is high bits.1 in
    let back = read to bits.2 in
    λ k. instr.LoopNext (at k) (most k) (back k)
told_is b (instr.Emit port) bits = ap (λ n. instr.Emit n) (read port bits)
told_is b (instr.End state) bits = ap (λ n. instr.End n) (read state bits)
told_is b other bits = refl

-- ---- its words are plain
mnemonic_plain : (i : Instr) → is_plain (mnemonic i) ≡ true
mnemonic_plain (instr.Push n) = refl
mnemonic_plain other = refl

operands_plain : (b : BehaviourParts) (i : Instr) → HasPlainNames b → ArePlain (operands b i)
operands_plain b (instr.Push n) plain = (signed_plain n, tt)
operands_plain b (instr.Load slot) plain = (decimal_plain slot, (slot_plain b.vars slot plain.vars, tt))
operands_plain b (instr.Store slot) plain = (decimal_plain slot, (slot_plain b.vars slot plain.vars, tt))
operands_plain b (instr.Port port) plain = (decimal_plain port, (port_plain b.ins port plain.ins, tt))
operands_plain b (instr.Fresh port) plain = (decimal_plain port, (port_plain b.ins port plain.ins, tt))
operands_plain b (instr.Jump to) plain = (decimal_plain to, tt)
operands_plain b (instr.JumpZero to) plain = (decimal_plain to, tt)
operands_plain b (instr.LoopStart slot low high exit) plain = (
  decimal_plain slot,
  (
    slot_plain b.vars slot plain.vars,
    (signed_plain low, (signed_plain high, (decimal_plain exit, tt))),
  ),
)
operands_plain b (instr.LoopNext slot high to) plain =
    (decimal_plain slot, (slot_plain b.vars slot plain.vars, (signed_plain high, (decimal_plain to, tt))))
operands_plain b (instr.Emit port) plain = (decimal_plain port, (port_plain b.outs port plain.outs, tt))
operands_plain b (instr.End state) plain = (decimal_plain state, (state_plain b.states state plain.states, tt))
operands_plain b other plain = tt

pub words_plain : (b : BehaviourParts) (place : ℕ) (i : Instr) → HasPlainNames b
    → ArePlain ([] ∷ [] ∷ decimal place ∷ mnemonic i ∷ operands b i)
words_plain b place i plain = (refl, (refl, (decimal_plain place, (mnemonic_plain i, operands_plain b i plain))))

-- ---- lines
instr_told : (b c : BehaviourParts) (place : ℕ) (i j : Instr) → HasPlainNames b → HasPlainNames c → InstrFits i
    → InstrFits j → instr_line b place i ≡ instr_line c place j → i ≡ j
instr_told b c place i j plain plain_other bits bits_other same =
    let words =
    same_words [] [] ([] ∷ decimal place ∷ mnemonic i ∷ operands b i)
    ([] ∷ decimal place ∷ mnemonic j ∷ operands c j)
    (words_plain b place i plain) (words_plain c place j plain_other) same in
    let name : mnemonic i ≡ mnemonic j = cc in
    let behind : operands b i ≡ operands c j = cc in
    sym (told_is b i bits) ∙ ap₂ told_by name behind ∙ told_is c j bits_other

numbered_told : (b c : BehaviourParts) (k : ℕ) (code other : List Instr) → HasPlainNames b → HasPlainNames c
    → All InstrFits code → All InstrFits other
    → map (λ numbered. instr_line b numbered.0 numbered.1) (enumerate_from k code)
    ≡ map (λ numbered. instr_line c numbered.0 numbered.1) (enumerate_from k other) → code ≡ other
numbered_told b c k [] [] plain plain_other bits bits_other same = refl
numbered_told b c k [] (j ∷ other) plain plain_other bits bits_other same = absurd (cc)
numbered_told b c k (i ∷ code) [] plain plain_other bits bits_other same = absurd (cc)
numbered_told b c k (i ∷ code) (j ∷ other) plain plain_other bits bits_other same =
    let head : instr_line b k i ≡ instr_line c k j = cc in
    let tail : map (λ numbered. instr_line b numbered.0 numbered.1) (enumerate_from (k + 1) code)
    ≡ map (λ numbered. instr_line c numbered.0 numbered.1) (enumerate_from (k + 1) other) = cc in
    ap₂ (λ x xs. x ∷ xs) (instr_told b c k i j plain plain_other (All-head InstrFits i code bits)
    (All-head InstrFits j other bits_other) head)
    (numbered_told b c (k + 1) code other plain plain_other (All-tail InstrFits i code bits)
    (All-tail InstrFits j other bits_other) tail)

pub instrs_told : (b c : BehaviourParts) (code other : List Instr) → HasPlainNames b → HasPlainNames c
    → All InstrFits code → All InstrFits other
    → instr_lines b code ≡ instr_lines c other → code ≡ other
instrs_told b c code other plain plain_other bits bits_other same =
    numbered_told b c 0 code other plain plain_other bits bits_other same
