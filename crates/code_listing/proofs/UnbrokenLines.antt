-- No line of a listing has a line feed inside.
use Rattle.std.proofs.Common.{◌≡◌, ℕ, ◌+◌, List, [], ◌∷◌, ◌++◌, length, map, Option, Some, None, slice_get, All, true}
use Rattle.std.proofs.Common.{refl, sym, ap, subst, append_assoc}
use Rattle.std.specs.Prelude.{codes, decimal}
use Rattle.std.specs.Fmt.{signed_decimal}
use Rattle.std.specs.List.{enumerate_from}
use Rattle.std.proofs.lemmas.List.Elements.{All-nil, All-cons, All-append, All-head, All-tail, All-weaker, All-map}
use Rattle.pals_base.specs.declared.behaviour.PortDecl.{PortDecl}
use Rattle.pals_base.specs.declared.behaviour.VarDecl.{VarDecl}
use Rattle.pals_base.specs.declared.behaviour.StateDecl.{StateDecl}
use Rattle.pals_base.specs.declared.behaviour.BehaviourParts.{BehaviourParts}
use Rattle.pals_base.specs.PeriodBoundAndReleases.{sent_steps, release_offset}
use Rattle.pals_model.specs.declared.design.Component.{Component}
use Rattle.pals_model.specs.declared.design.Link.{Link}
use Rattle.pals_model.specs.declared.design.Feed.{Feed}
use Rattle.pals_model.specs.declared.design.Tap.{Tap}
use Rattle.pals_model.specs.declared.design.DesignParts.{DesignParts}
use Rattle.pals_model.specs.RoundTexts.{state_name}
use Rattle.pals_model.specs.DesignRules.{IsDesign, IsComponent, IsFeed, IsTap}
use Rattle.pals_model.specs.proof.CompositionLaws.TextLines.{IsLine}
use Rattle.pals_model.proofs.WordBytes.{path_inner}
use Rattle.pals_runs.specs.JournalLines.{spaced}
use Rattle.step_code.specs.declared.instr.Instr.{Instr}
use Rattle.step_code.specs.declared.instr.CodeParts.{CodeParts}
use Rattle.step_code.specs.SuccessorsAndWeights.{weight_of}
use Rattle.step_code.specs.CappedWeights.{capped}
use Rattle.pals_report.specs.CheckReports.{link_line, feed_line, tap_line}
use Rattle.code_listing.specs.Listings.{kind_word, number_line, port_line, variable_line, state_line, state_lines}
use Rattle.code_listing.specs.Listings.{mnemonic, operands, instr_line, instr_lines, initial_line, component_lines}
use Rattle.code_listing.specs.Listings.{lines_of_all, listing_lines, range_line, period_and_bounds_lines}
use Rattle.code_listing.proofs.LinesAndWords.{is_plain, is_one_line, decimal_plain, signed_plain}
use Rattle.code_listing.proofs.PlainNames.{HasPlainNames, names_are_plain, state_plain}
use Rattle.code_listing.proofs.ComponentInjectivity.{behind_states, behind_vars, behind_outs, behind_ins, path_line}
use Rattle.code_listing.proofs.ComponentInjectivity.{tail_lines, lines_are}
use Rattle.code_listing.proofs.DeclarationInjectivity.{kind_plain}
use Rattle.code_listing.proofs.InstructionInjectivity.{words_plain}
use Rattle.code_listing.proofs.LinkFeedTapInjectivity.{link_words, link_line-is, link_plain, feed_words, feed_line-is}
use Rattle.code_listing.proofs.LinkFeedTapInjectivity.{feed_plain}
use Rattle.code_listing.proofs.LinkFeedTapInjectivity.{tap_words, tap_line-is, tap_plain}

-- ---- a component
a_number : (word : List ℕ) (n : ℕ) → is_plain word ≡ true → (rest : List (List ℕ)) → All IsLine rest
    → All IsLine (number_line word n ∷ rest)
a_number word n plain rest lines =
    All-cons IsLine (number_line word n) rest
    (is_one_line ([] ∷ word ∷ decimal n ∷ []) (refl, (plain, (decimal_plain n, tt)))) lines

ports : (word : List ℕ) (ps : List PortDecl) → is_plain word ≡ true → All (λ (p : PortDecl). is_plain p.name ≡ true) ps
    → All IsLine (map (port_line word) ps)
ports word ps plain named =
    All-map IsLine (port_line word) ps
    (All-weaker (λ (p : PortDecl). is_plain p.name ≡ true) (λ (p : PortDecl). IsLine (port_line word p))
    (λ p name. is_one_line ([] ∷ word ∷ p.name ∷ kind_word p.kind ∷ [])
    (refl, (plain, (name, (kind_plain p.kind, tt))))) ps named)

variables : (vs : List VarDecl) → All (λ (v : VarDecl). is_plain v.name ≡ true) vs → All IsLine (map variable_line vs)
variables vs named =
    All-map IsLine variable_line vs
    (All-weaker (λ (v : VarDecl). is_plain v.name ≡ true) (λ (v : VarDecl). IsLine (variable_line v))
    (λ v name. is_one_line ([] ∷ codes "var" ∷ v.name ∷ kind_word v.kind ∷ signed_decimal v.first ∷ [])
    (refl, (refl, (name, (kind_plain v.kind, (signed_plain v.first, tt)))))) vs named)

a_state : (s : StateDecl) (entry : Option ℕ) → is_plain s.name ≡ true → IsLine (state_line s entry)
a_state s None name =
    is_one_line ([] ∷ codes "state" ∷ s.name ∷ codes "passing" ∷ []) (refl, (refl, (name, (refl, tt))))
a_state s (Some place) name =
    is_one_line ([] ∷ codes "state" ∷ s.name ∷ codes "entry" ∷ decimal place ∷ [])
    (refl, (refl, (name, (refl, (decimal_plain place, tt)))))

states : (ss : List StateDecl) (entries : List (Option ℕ)) → All (λ (s : StateDecl). is_plain s.name ≡ true) ss
    → All IsLine (state_lines ss entries)
states [] entries named = All-nil IsLine
states (s ∷ ss) [] named = All-nil IsLine
states (s ∷ ss) (entry ∷ entries) named =
    All-cons IsLine (state_line s entry) (state_lines ss entries)
    (a_state s entry (All-head (λ (t : StateDecl). is_plain t.name ≡ true) s ss named))
    (states ss entries (All-tail (λ (t : StateDecl). is_plain t.name ≡ true) s ss named))

instrs_from : (b : BehaviourParts) (place : ℕ) (code : List Instr) → HasPlainNames b
    → All IsLine (map (λ numbered. instr_line b numbered.0 numbered.1) (enumerate_from place code))
instrs_from b place [] plain = All-nil IsLine
instrs_from b place (i ∷ code) plain =
    All-cons IsLine (instr_line b place i) _
    (is_one_line ([] ∷ [] ∷ decimal place ∷ mnemonic i ∷ operands b i) (words_plain b place i plain))
    (instrs_from b (place + 1) code plain)

behind_state : (b : BehaviourParts) (code : CodeParts) → HasPlainNames b → All IsLine (behind_states b code)
behind_state b code plain =
    let name = state_name (slice_get b.states b.initial) in
    let count = length code.instrs in
    All-cons IsLine (initial_line b)
    (number_line (codes "most") (capped (weight_of code)) ∷ number_line (codes "code") count
    ∷ instr_lines b code.instrs)
    (is_one_line ([] ∷ codes "initial" ∷ name ∷ []) (refl, (refl, (state_plain b.states b.initial plain.states, tt))))
    (a_number (codes "most") (capped (weight_of code)) refl
    (number_line (codes "code") count ∷ instr_lines b code.instrs)
    (a_number (codes "code") count refl (instr_lines b code.instrs) (instrs_from b 0 code.instrs plain)))

component : (design : DesignParts) (c : Component) (code : CodeParts) → IsComponent design.period c
    → All IsLine (path_line c ∷ tail_lines design c code)
component design c code rule =
    let b = c.behaviour in
    let plain = names_are_plain b rule.behaviour in
    let vars = All-append IsLine (map variable_line b.vars) (behind_vars b code) (variables b.vars plain.vars)
    (a_number (codes "loops") code.loops refl (state_lines b.states code.entries ++ behind_states b code)
    (All-append IsLine (state_lines b.states code.entries) (behind_states b code)
    (states b.states code.entries plain.states) (behind_state b code plain))) in
    let ports_and_vars =
    All-append IsLine (map (port_line (codes "in")) b.ins) (behind_ins b code)
    (ports (codes "in") b.ins refl plain.ins)
    (All-append IsLine (map (port_line (codes "out")) b.outs) (behind_outs b code)
    (ports (codes "out") b.outs refl plain.outs) vars) in
    let sent = sent_steps design.gamma design.period c.rate in
    let release = release_offset design.gamma design.period c.rate in
    let with_release =
    a_number (codes "release") release refl (map (port_line (codes "in")) b.ins ++ behind_ins b code)
    ports_and_vars in
    let with_sent =
    a_number (codes "sent") sent refl
    (number_line (codes "release") release ∷ (map (port_line (codes "in")) b.ins ++ behind_ins b code))
    with_release in
    All-cons IsLine (path_line c) (tail_lines design c code)
    (is_one_line (codes "component" ∷ c.path ∷ []) (refl, (path_inner c.path rule.path, tt)))
    (a_number (codes "rate") c.rate refl
    (number_line (codes "sent") sent ∷ number_line (codes "release") release
    ∷ (map (port_line (codes "in")) b.ins ++ behind_ins b code)) with_sent)

components : (design : DesignParts) (cs : List Component) (programs : List CodeParts)
    → All (IsComponent design.period) cs → All IsLine (lines_of_all design cs programs)
components design [] programs sound = All-nil IsLine
components design (c ∷ cs) [] sound = All-nil IsLine
components design (c ∷ cs) (code ∷ programs) sound =
    All-append IsLine (component_lines design c code) (lines_of_all design cs programs)
    (subst (All IsLine) (sym (lines_are design c code))
    (component design c code (All-head (IsComponent design.period) c cs sound)))
    (components design cs programs (All-tail (IsComponent design.period) c cs sound))

-- ---- links, feeds and taps
links : (design : DesignParts) (ls : List Link) → IsDesign design → All IsLine (map (link_line design) ls)
links design ls rules =
    All-map IsLine (link_line design) ls
    (λ k d within. subst IsLine (sym (link_line-is design _))
    (is_one_line (codes "link" ∷ link_words design _) (link_plain design _ rules)))

feeds : (design : DesignParts) (fs : List Feed) → IsDesign design → All (IsFeed design) fs
    → All IsLine (map (feed_line design) fs)
feeds design fs rules sound =
    All-map IsLine (feed_line design) fs
    (All-weaker (IsFeed design) (λ f. IsLine (feed_line design f))
    (λ f rule. subst IsLine (sym (feed_line-is design f))
    (is_one_line (codes "input" ∷ feed_words design f) (feed_plain design f rules rule))) fs sound)

taps : (design : DesignParts) (ts : List Tap) → IsDesign design → All (IsTap design) ts
    → All IsLine (map (tap_line design) ts)
taps design ts rules sound =
    All-map IsLine (tap_line design) ts
    (All-weaker (IsTap design) (λ t. IsLine (tap_line design t))
    (λ t rule. subst IsLine (sym (tap_line-is design t))
    (is_one_line (codes "output" ∷ tap_words design t) (tap_plain design t rules rule))) ts sound)

-- ---- the whole, by runs of one form
abbrev pub behind_feeds : DesignParts → List (List ℕ)
behind_feeds design = map (tap_line design) design.taps ++ codes "end" ∷ []

abbrev pub behind_links : DesignParts → List (List ℕ)
behind_links design = map (feed_line design) design.feeds ++ behind_feeds design

abbrev pub behind_components : DesignParts → List (List ℕ)
behind_components design = map (link_line design) design.links ++ behind_links design

abbrev behind_bounds : DesignParts → List CodeParts → List (List ℕ)
behind_bounds design programs = lines_of_all design design.components programs ++ behind_components design

abbrev behind_skew : DesignParts → List CodeParts → List (List ℕ)
behind_skew design programs =
    range_line (codes "execution") design.gamma.alpha_min design.gamma.alpha_max
    ∷ range_line (codes "network") design.gamma.mu_min design.gamma.mu_max ∷ behind_bounds design programs

abbrev behind_period : DesignParts → List CodeParts → List (List ℕ)
behind_period design programs = spaced (codes "skew" ∷ decimal design.gamma.eps ∷ []) ∷ behind_skew design programs

abbrev pub lines_in_order : DesignParts → List CodeParts → List (List ℕ)
lines_in_order design programs =
    spaced (codes "pals-code" ∷ decimal 1 ∷ []) ∷ spaced (codes "period" ∷ decimal design.period ∷ [])
    ∷ behind_period design programs

grouped : (a b c d e : List (List ℕ)) → (((a ++ b) ++ c) ++ d) ++ e ≡ a ++ (b ++ (c ++ (d ++ e)))
grouped a b c d e = simp append_assoc

pub in_order : (design : DesignParts) (programs : List CodeParts)
    → listing_lines design programs ≡ lines_in_order design programs
in_order design programs =
    ap (λ lines. period_and_bounds_lines design ++ lines)
    (grouped (lines_of_all design design.components programs) (map (link_line design) design.links)
    (map (feed_line design) design.feeds) (map (tap_line design) design.taps) (codes "end" ∷ []))

bound : (word : List ℕ) (n : ℕ) → is_plain word ≡ true → (rest : List (List ℕ)) → All IsLine rest
    → All IsLine (spaced (word ∷ decimal n ∷ []) ∷ rest)
bound word n plain rest lines =
    All-cons IsLine _ rest (is_one_line (word ∷ decimal n ∷ []) (plain, (decimal_plain n, tt))) lines

range : (word : List ℕ) (least most : ℕ) → is_plain word ≡ true → (rest : List (List ℕ)) → All IsLine rest
    → All IsLine (range_line word least most ∷ rest)
range word least most plain rest lines =
    All-cons IsLine _ rest (is_one_line (word ∷ decimal least ∷ decimal most ∷ [])
    (plain, (decimal_plain least, (decimal_plain most, tt)))) lines

pub listing_has_lines : (design : DesignParts) (programs : List CodeParts) → IsDesign design
    → All IsLine (lines_in_order design programs)
listing_has_lines design programs rules =
    let g = design.gamma in
    let last : All IsLine (codes "end" ∷ []) =
    All-cons IsLine (codes "end") [] (is_one_line (codes "end" ∷ []) (refl, tt)) (All-nil IsLine) in
    let from_taps =
    All-append IsLine (map (tap_line design) design.taps) (codes "end" ∷ [])
    (taps design design.taps rules rules.taps.each) last in
    let from_feeds =
    All-append IsLine (map (feed_line design) design.feeds) (behind_feeds design)
    (feeds design design.feeds rules rules.feeds.each) from_taps in
    let from_links =
    All-append IsLine (map (link_line design) design.links) (behind_links design) (links design design.links rules)
    from_feeds in
    let from_components = All-append IsLine (lines_of_all design design.components programs) (behind_components design)
    (components design design.components programs rules.components.each) from_links in
    let from_network = range (codes "network") g.mu_min g.mu_max refl (behind_bounds design programs) from_components in
    let from_execution =
    range (codes "execution") g.alpha_min g.alpha_max refl
    (range_line (codes "network") g.mu_min g.mu_max ∷ behind_bounds design programs) from_network in
    let from_skew = bound (codes "skew") g.eps refl (behind_skew design programs) from_execution in
    bound (codes "pals-code") 1 refl
    (spaced (codes "period" ∷ decimal design.period ∷ []) ∷ behind_period design programs)
    (bound (codes "period") design.period refl (behind_period design programs) from_skew)
