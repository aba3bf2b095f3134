-- The lines of components, one block after the other, determine the components.
use Rattle.std.proofs.Common.{◌≡◌, ℕ, true, ◌&&◌, List, [], ◌∷◌, ◌++◌, length, map, Option, Some, None, slice_get, All}
use Rattle.std.proofs.Common.{refl, sym, ap, ap₂, ◌∙◌, arith, append_assoc}
use Rattle.std.specs.Prelude.{codes, zip, IsTrue}
use Rattle.std.specs.List.{list_all, enumerate_from}
use Rattle.std.proofs.lemmas.List.Elements.{All-head, All-tail}
use Rattle.std.proofs.lemmas.List.Folds.{list_all-append}
use Rattle.std.proofs.lemmas.Option.{slice_get-map}
use Rattle.std.specs.Option.{option_map}
use Rattle.list_lemmas.proofs.ElementPositions.{slice_get-map_parts}
use Rattle.list_lemmas.proofs.PairwiseProperties.{same_place}
use Rattle.pals_base.specs.declared.behaviour.PortDecl.{PortDecl}
use Rattle.pals_base.specs.declared.behaviour.StateDecl.{StateDecl}
use Rattle.pals_base.specs.declared.behaviour.BehaviourParts.{BehaviourParts}
use Rattle.pals_base.specs.PeriodBoundAndReleases.{sent_steps, release_offset}
use Rattle.pals_base.specs.SingleStep.{may_begin}
use Rattle.pals_base.specs.BehaviourRules.{IsBehaviour}
use Rattle.pals_model.specs.declared.design.Component.{Component}
use Rattle.pals_model.specs.declared.design.DesignParts.{DesignParts}
use Rattle.pals_model.specs.RoundTexts.{state_name}
use Rattle.pals_model.specs.DesignRules.{IsComponent}
use Rattle.pals_model.proofs.WordBytes.{path_inner}
use Rattle.pals_runs.specs.JournalLines.{spaced}
use Rattle.step_code.specs.declared.instr.CodeParts.{CodeParts}
use Rattle.step_code.specs.SuccessorsAndWeights.{weight_of}
use Rattle.step_code.specs.CappedWeights.{capped}
use Rattle.code_listing.specs.Listings.{number_line, port_line, variable_line, state_line, state_lines, instr_line}
use Rattle.code_listing.specs.Listings.{instr_lines, initial_line, component_lines, lines_of_all}
use Rattle.code_listing.specs.NumberRanges.{NumbersFit}
use Rattle.code_listing.specs.proof.ListingInjectivity.{state_names, told_component, told_components, IsCodeOf}
use Rattle.code_listing.proofs.LinesAndWords.{is_plain, same_words}
use Rattle.code_listing.proofs.PlainNames.{HasPlainNames, names_are_plain, state_plain}
use Rattle.code_listing.proofs.LineGroups.{begins, EndsAt, no_end, parted, all_begin, none_begins, run_parted}
use Rattle.code_listing.proofs.LineGroups.{items_told, cons_told}
use Rattle.code_listing.proofs.DeclarationInjectivity.{number_told, IsFit, port_told, variable_told, states_told}
use Rattle.code_listing.proofs.InstructionInjectivity.{instrs_told}

-- ---- the lines of one component, by runs of one form
abbrev pub behind_states : BehaviourParts → CodeParts → List (List ℕ)
behind_states b code =
    initial_line b ∷ number_line (codes "most") (capped (weight_of code))
    ∷ number_line (codes "code") (length code.instrs) ∷ instr_lines b code.instrs

abbrev pub behind_vars : BehaviourParts → CodeParts → List (List ℕ)
behind_vars b code =
    number_line (codes "loops") code.loops ∷ (state_lines b.states code.entries ++ behind_states b code)

abbrev pub behind_outs : BehaviourParts → CodeParts → List (List ℕ)
behind_outs b code = map variable_line b.vars ++ behind_vars b code

abbrev pub behind_ins : BehaviourParts → CodeParts → List (List ℕ)
behind_ins b code = map (port_line (codes "out")) b.outs ++ behind_outs b code

abbrev pub path_line : Component → List ℕ
path_line c = spaced (codes "component" ∷ c.path ∷ [])

abbrev pub tail_lines : DesignParts → Component → CodeParts → List (List ℕ)
tail_lines design c code =
    number_line (codes "rate") c.rate
    ∷ number_line (codes "sent") (sent_steps design.gamma design.period c.rate)
    ∷ number_line (codes "release") (release_offset design.gamma design.period c.rate)
    ∷ (map (port_line (codes "in")) c.behaviour.ins ++ behind_ins c.behaviour code)

pub lines_are : (design : DesignParts) (c : Component) (code : CodeParts)
    → component_lines design c code ≡ path_line c ∷ tail_lines design c code
lines_are design c code = simp append_assoc

state_begins : (p : StateDecl × Option ℕ) → begins (codes " state ") (state_line p.0 p.1) ≡ true
state_begins p = refl

ends_states : (b : BehaviourParts) (code : CodeParts) → EndsAt (codes " state ") (behind_states b code)
ends_states b code = refl

ends_vars : (b : BehaviourParts) (code : CodeParts) → EndsAt (codes " var ") (behind_vars b code)
ends_vars b code = refl

-- ---- one component
pub record IsSound (period : ℕ) (c : Component) (code : CodeParts) : Type 0 where
  pub rule : IsComponent period c
  pub is_code : IsCodeOf c.behaviour code
  pub fit : NumbersFit c.behaviour code

path_told : (c d : Component) → is_plain c.path ≡ true → is_plain d.path ≡ true → path_line c ≡ path_line d
    → c.path ≡ d.path
path_told c d plain plain_other same =
    let words =
    same_words (codes "component") (codes "component") (c.path ∷ []) (d.path ∷ []) (refl, (plain, tt))
    (refl, (plain_other, tt)) same in cc

vars_fit : (b : BehaviourParts) (code : CodeParts) → HasPlainNames b → NumbersFit b code → All IsFit b.vars
vars_fit b code plain fit k d within = (plain.vars k d within, fit.firsts k d within)

-- the state in which it begins
begun : (o : Option StateDecl) → IsTrue (may_begin o) → (s : StateDecl) × (o ≡ Some s)
begun None may = absurd (cc)
begun (Some s) may = (s, refl)

initial_told : (b c : BehaviourParts) → IsBehaviour b → IsBehaviour c → state_names b.states ≡ state_names c.states
    → initial_line b ≡ initial_line c → b.initial ≡ c.initial
initial_told b c rules rules_other names same =
    let s = begun (slice_get b.states b.initial) rules.initial in
    let t = begun (slice_get c.states c.initial) rules_other.initial in
    let words =
    same_words [] [] (codes "initial" ∷ state_name (slice_get b.states b.initial) ∷ [])
    (codes "initial" ∷ state_name (slice_get c.states c.initial) ∷ [])
    (refl, (refl, (state_plain b.states b.initial (names_are_plain b rules).states, tt)))
    (refl, (refl, (state_plain c.states c.initial (names_are_plain c rules_other).states, tt))) same in
    let name : state_name (slice_get b.states b.initial) ≡ state_name (slice_get c.states c.initial) = cc in
    let same_name : s.0.name ≡ t.0.name = sym (ap state_name s.1) ∙ name ∙ ap state_name t.1 in
    let at : slice_get (state_names b.states) c.initial ≡ Some t.0.name =
    ap (λ ns. slice_get ns c.initial) names ∙ slice_get-map (λ (u : StateDecl). u.name) c.states c.initial
    ∙ ap (option_map (λ (u : StateDecl). u.name)) t.1 in
    let u = slice_get-map_parts (λ (v : StateDecl). v.name) b.states c.initial t.0.name at in
    same_place (λ (v : StateDecl). v.name) b.states b.initial c.initial s.0 u.0 rules.names.states_differ s.1 u.1
    (same_name ∙ sym u.2)

pub component_told : (design other : DesignParts) (c d : Component) (code program : CodeParts)
    → IsSound design.period c code → IsSound other.period d program
    → path_line c ≡ path_line d → tail_lines design c code ≡ tail_lines other d program
    → told_component c code ≡ told_component d program
component_told design other c d code program sound sound_other first same =
    let b = c.behaviour in
    let a = d.behaviour in
    let plain = names_are_plain b sound.rule.behaviour in
    let plain_other = names_are_plain a sound_other.rule.behaviour in
    let path = path_told c d (path_inner c.path sound.rule.path) (path_inner d.path sound_other.rule.path) first in
    let with_rate = cons_told _ _ _ _ same in
    let rate =
    number_told (codes "rate") c.rate d.rate refl (omega (arith, sound.rule.rate.1))
    (omega (arith, sound_other.rule.rate.1)) with_rate.0 in
    let with_sent = cons_told _ _ _ _ with_rate.1 in
    let with_release = cons_told _ _ _ _ with_sent.1 in
    let with_ins =
    run_parted (codes " in ") (port_line (codes "in")) (port_line (codes "in")) (λ p. refl) (λ p. refl) b.ins a.ins
    (behind_ins b code) (behind_ins a program)
    (none_begins (codes " in ") (port_line (codes "out")) (λ p. refl) b.outs (behind_outs b code)
    (none_begins (codes " in ") variable_line (λ v. refl) b.vars (behind_vars b code) refl))
    (none_begins (codes " in ") (port_line (codes "out")) (λ p. refl) a.outs (behind_outs a program)
    (none_begins (codes " in ") variable_line (λ v. refl) a.vars (behind_vars a program) refl))
    with_release.1 in
    let ins =
    items_told (port_line (codes "in")) (port_line (codes "in")) (λ (p : PortDecl). is_plain p.name ≡ true)
    (λ (p : PortDecl). is_plain p.name ≡ true)
    (port_told (codes "in") refl) b.ins a.ins plain.ins plain_other.ins with_ins.0 in
    let with_outs =
    run_parted (codes " out ") (port_line (codes "out")) (port_line (codes "out")) (λ p. refl) (λ p. refl) b.outs
    a.outs (behind_outs b code) (behind_outs a program)
    (none_begins (codes " out ") variable_line (λ v. refl) b.vars (behind_vars b code) refl)
    (none_begins (codes " out ") variable_line (λ v. refl) a.vars (behind_vars a program) refl)
    with_ins.1 in
    let outs =
    items_told (port_line (codes "out")) (port_line (codes "out")) (λ (p : PortDecl). is_plain p.name ≡ true)
    (λ (p : PortDecl). is_plain p.name ≡ true)
    (port_told (codes "out") refl) b.outs a.outs plain.outs plain_other.outs with_outs.0 in
    let with_vars =
    run_parted (codes " var ") variable_line variable_line (λ v. refl) (λ v. refl) b.vars a.vars
    (behind_vars b code) (behind_vars a program) (ends_vars b code) (ends_vars a program) with_outs.1 in
    let vars =
    items_told variable_line variable_line IsFit IsFit variable_told b.vars a.vars (vars_fit b code plain sound.fit)
    (vars_fit a program plain_other sound_other.fit) with_vars.0 in
    let with_loops = cons_told _ _ _ _ with_vars.1 in
    let loops =
    number_told (codes "loops") code.loops program.loops refl (omega (arith, sound.fit.code.loops))
    (omega (arith, sound_other.fit.code.loops)) with_loops.0 in
    let with_states =
    run_parted (codes " state ") (λ p. state_line p.0 p.1) (λ p. state_line p.0 p.1) state_begins state_begins
    (zip b.states code.entries) (zip a.states program.entries)
    (behind_states b code) (behind_states a program) (ends_states b code) (ends_states a program) with_loops.1 in
    let states =
    states_told b.states a.states code.entries program.entries sound.is_code.states sound_other.is_code.states
    plain.states plain_other.states sound.fit.code.entries sound_other.fit.code.entries with_states.0 in
    let with_initial = cons_told _ _ _ _ with_states.1 in
    let initial = initial_told b a sound.rule.behaviour sound_other.rule.behaviour states.0 with_initial.0 in
    let with_most = cons_told _ _ _ _ with_initial.1 in
    let with_code = cons_told _ _ _ _ with_most.1 in
    let instrs =
    instrs_told b a code.instrs program.instrs plain plain_other sound.fit.code.instrs sound_other.fit.code.instrs
    with_code.1 in
    let count_vars = sound.is_code.vars ∙ ap length vars ∙ sym sound_other.is_code.vars in
    let count_ins = sound.is_code.ins ∙ ap length ins ∙ sym sound_other.is_code.ins in
    let count_outs = sound.is_code.outs ∙ ap length outs ∙ sym sound_other.is_code.outs in
    λ k. record {
      path = path k;
      rate = rate k;
      ins = ins k;
      outs = outs k;
      vars = vars k;
      states = states.0 k;
      initial = initial k;
      code =
          record {
            instrs = instrs k;
            entries = states.1 k;
            vars = count_vars k;
            loops = loops k;
            ins = count_ins k;
            outs = count_outs k;
          };
    }

-- ---- all components
-- the lines after the first are indented
all_joined : (xs ys : List (List ℕ)) → list_all (begins (32 ∷ [])) xs ≡ true → list_all (begins (32 ∷ [])) ys ≡ true
    → list_all (begins (32 ∷ [])) (xs ++ ys) ≡ true
all_joined xs ys first rest = list_all-append (begins (32 ∷ [])) xs ys ∙ ap₂ (λ a b. a && b) first rest

tail_indented : (design : DesignParts) (c : Component) (code : CodeParts)
    → list_all (begins (32 ∷ [])) (tail_lines design c code) ≡ true
tail_indented design c code =
    let b = c.behaviour in
    let space = 32 ∷ [] in
    let instrs : list_all (begins space) (behind_states b code) ≡ true =
    all_begin space (λ numbered. instr_line b numbered.0 numbered.1) (λ p. refl) (enumerate_from 0 code.instrs) in
    let states : list_all (begins space) (behind_vars b code) ≡ true =
    all_joined (state_lines b.states code.entries) (behind_states b code)
    (all_begin space (λ p. state_line p.0 p.1) (λ p. refl) (zip b.states code.entries)) instrs in
    let vars =
    all_joined (map variable_line b.vars) (behind_vars b code)
    (all_begin space variable_line (λ v. refl) b.vars) states in
    let outs =
    all_joined (map (port_line (codes "out")) b.outs) (behind_outs b code)
    (all_begin space (port_line (codes "out")) (λ p. refl) b.outs) vars in
    all_joined (map (port_line (codes "in")) b.ins) (behind_ins b code)
    (all_begin space (port_line (codes "in")) (λ p. refl) b.ins) outs

-- neither a line of a component nor the first of the next one
pub record EndsComponents (rest : List (List ℕ)) : Type 0 where
  pub indented : EndsAt (32 ∷ []) rest
  pub component : EndsAt (codes "component ") rest

ends_tail : (design : DesignParts) (cs : List Component) (codes_of : List CodeParts) (rest : List (List ℕ))
    → EndsComponents rest → EndsAt (32 ∷ []) (lines_of_all design cs codes_of ++ rest)
ends_tail design [] programs rest ends = ends.indented
ends_tail design (c ∷ cs) [] rest ends = ends.indented
ends_tail design (c ∷ cs) (code ∷ programs) rest ends = refl

block_first : (design : DesignParts) (c : Component) (code : CodeParts) (more rest : List (List ℕ))
    → (component_lines design c code ++ more) ++ rest ≡ path_line c ∷ (tail_lines design c code ++ (more ++ rest))
block_first design c code more rest =
    ap (λ lines. (lines ++ more) ++ rest) (lines_are design c code)
    ∙ append_assoc (path_line c ∷ tail_lines design c code) more rest

abbrev pub AreSound : ℕ → List Component → List CodeParts → Type 0
AreSound period cs programs = All (λ p. IsSound period p.0 p.1) (zip cs programs)

pub all_told : (design other : DesignParts) (cs ds : List Component) (programs others : List CodeParts)
    (rest behind : List (List ℕ)) → length programs ≡ length cs → length others ≡ length ds
    → AreSound design.period cs programs → AreSound other.period ds others → EndsComponents rest → EndsComponents behind
    → lines_of_all design cs programs ++ rest ≡ lines_of_all other ds others ++ behind
    → (told_components cs programs ≡ told_components ds others) × (rest ≡ behind)
all_told design other [] [] programs others rest behind many many_other sound sound_other ends ends_other same =
    (refl, same)
all_told design other [] (d ∷ ds) programs [] rest behind many many_other sound sound_other ends ends_other same =
    absurd (omega arith)
all_told design other [] (d ∷ ds) programs (program ∷ others) rest behind many many_other sound sound_other ends
    ends_other same =
    no_end (codes "component ") (path_line d) (tail_lines other d program ++ (lines_of_all other ds others ++ behind))
    rest refl ends.component
    (sym (block_first other d program (lines_of_all other ds others) behind) ∙ sym same)
all_told design other (c ∷ cs) ds [] others rest behind many many_other sound sound_other ends ends_other same =
    absurd (omega arith)
all_told design other (c ∷ cs) [] (code ∷ programs) others rest behind many many_other sound sound_other ends
    ends_other same =
    no_end (codes "component ") (path_line c) (tail_lines design c code ++ (lines_of_all design cs programs ++ rest))
    behind refl ends_other.component
    (sym (block_first design c code (lines_of_all design cs programs) rest) ∙ same)
all_told design other (c ∷ cs) (d ∷ ds) (code ∷ programs) [] rest behind many many_other sound sound_other ends
    ends_other same = absurd (omega arith)
all_told design other (c ∷ cs) (d ∷ ds) (code ∷ programs) (program ∷ others) rest behind many many_other sound
    sound_other ends ends_other same =
    let more = lines_of_all design cs programs in
    let more_other = lines_of_all other ds others in
    let first =
    cons_told (path_line c) (path_line d) (tail_lines design c code ++ (more ++ rest))
    (tail_lines other d program ++ (more_other ++ behind))
    (sym (block_first design c code more rest) ∙ same ∙ block_first other d program more_other behind) in
    let parts =
    parted (32 ∷ []) (tail_lines design c code) (tail_lines other d program) (more ++ rest) (more_other ++ behind)
    (tail_indented design c code) (tail_indented other d program)
    (ends_tail design cs programs rest ends) (ends_tail other ds others behind ends_other) first.1 in
    let here =
    component_told design other c d code program
    (All-head (λ p. IsSound design.period p.0 p.1) (c, code) (zip cs programs) sound)
    (All-head (λ p. IsSound other.period p.0 p.1) (d, program) (zip ds others) sound_other) first.0 parts.0 in
    let later =
    all_told design other cs ds programs others rest behind (omega arith) (omega arith)
    (All-tail (λ p. IsSound design.period p.0 p.1) (c, code) (zip cs programs) sound)
    (All-tail (λ p. IsSound other.period p.0 p.1) (d, program) (zip ds others) sound_other) ends ends_other parts.1 in
    (ap₂ (λ x xs. x ∷ xs) here later.0, later.1)
