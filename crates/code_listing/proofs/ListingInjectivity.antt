-- A listing determines its design and code.
use Rattle.std.proofs.Common.{◌≡◌, ℕ, ◌^◌, ◌<◌, true, List, [], ◌∷◌, length, map, refl, sym, ap, ap₂, ◌∙◌, arith}
use Rattle.std.specs.Prelude.{codes, decimal, zip, All}
use Rattle.std.proofs.lemmas.Fmt.{decimal_injective}
use Rattle.std.proofs.lemmas.List.Elements.{All-nil, All-cons, All-head, All-tail}
use Rattle.pals_base.specs.declared.behaviour.PortDecl.{PortDecl}
use Rattle.pals_base.specs.declared.behaviour.BehaviourParts.{BehaviourParts}
use Rattle.pals_base.specs.declared.period_bound_and_releases.Gamma.{Gamma}
use Rattle.pals_model.specs.declared.design.Component.{Component}
use Rattle.pals_model.specs.declared.design.DesignParts.{DesignParts}
use Rattle.pals_model.specs.RoundTexts.{text_of}
use Rattle.pals_model.specs.DesignRules.{IsComponent, IsLink, IsFeed, IsTap, IsGamma}
use Rattle.pals_runs.specs.JournalLines.{spaced}
use Rattle.step_code.specs.declared.instr.CodeParts.{CodeParts}
use Rattle.pals_report.specs.CheckReports.{link_line, feed_line, tap_line}
use Rattle.code_listing.specs.Listings.{range_line}
use Rattle.code_listing.specs.NumberRanges.{NumbersFit, AllFit}
use Rattle.code_listing.specs.proof.ListingInjectivity.{ToldComponent, told_component, told_components, told_design}
use Rattle.code_listing.specs.proof.ListingInjectivity.{IsCodeOf}
use Rattle.code_listing.specs.proof.ListingInjectivity.{AreListed, ListingTells}
use Rattle.code_listing.proofs.LinesAndWords.{is_plain, same_lines, same_words, decimal_plain}
use Rattle.code_listing.proofs.PortNames.{Ported, names_of, ported, outs_of, ins_of}
use Rattle.code_listing.proofs.LineGroups.{none_begins, run_parted, items_told, cons_told}
use Rattle.code_listing.proofs.ComponentInjectivity.{EndsComponents, AreSound, IsSound, all_told}
use Rattle.code_listing.proofs.LinkFeedTapInjectivity.{AreAlike, link_told, feed_told, tap_told}
use Rattle.code_listing.proofs.UnbrokenLines.{behind_feeds, behind_links, behind_components, lines_in_order, in_order}
use Rattle.code_listing.proofs.UnbrokenLines.{listing_has_lines}

-- ---- the bounds
bound_told : (word : List ℕ) (m n : ℕ) → is_plain word ≡ true → m < 2 ^ 64 → n < 2 ^ 64
    → spaced (word ∷ decimal m ∷ []) ≡ spaced (word ∷ decimal n ∷ []) → m ≡ n
bound_told word m n plain small small_other same =
    let words =
    same_words word word (decimal m ∷ []) (decimal n ∷ []) (plain, (decimal_plain m, tt))
    (plain, (decimal_plain n, tt)) same in
    let number : decimal m ≡ decimal n = cc in
    decimal_injective m n small small_other number

range_told : (word : List ℕ) (k l m n : ℕ) → is_plain word ≡ true → k < 2 ^ 64 → l < 2 ^ 64 → m < 2 ^ 64 → n < 2 ^ 64
    → range_line word k l ≡ range_line word m n → (k ≡ m) × (l ≡ n)
range_told word k l m n plain small_k small_l small_m small_n same =
    let words =
    same_words word word (decimal k ∷ decimal l ∷ []) (decimal m ∷ decimal n ∷ [])
    (plain, (decimal_plain k, (decimal_plain l, tt))) (plain, (decimal_plain m, (decimal_plain n, tt))) same in
    let least : decimal k ≡ decimal m = cc in
    let most : decimal l ≡ decimal n = cc in
    (decimal_injective k m small_k small_m least, decimal_injective l n small_l small_n most)

-- a time of at most an hour
record IsTime (g : Gamma) : Type 0 where
  eps : g.eps < 2 ^ 64
  alpha_min : g.alpha_min < 2 ^ 64
  alpha_max : g.alpha_max < 2 ^ 64
  mu_min : g.mu_min < 2 ^ 64
  mu_max : g.mu_max < 2 ^ 64

times : (g : Gamma) → IsGamma g → IsTime g
times g rules = record {
  eps = omega (arith, rules.skew.1);
  alpha_min = omega (arith, rules.execution.0, rules.execution.1);
  alpha_max = omega (arith, rules.execution.1);
  mu_min = omega (arith, rules.network.0, rules.network.1);
  mu_max = omega (arith, rules.network.1);
}

-- ---- the lines after the lines of components
ends_components : (design : DesignParts) → EndsComponents (behind_components design)
ends_components design = record {
  indented = none_begins (32 ∷ []) (link_line design) (λ l. refl) design.links (behind_links design)
      (none_begins (32 ∷ []) (feed_line design) (λ f. refl) design.feeds (behind_feeds design)
      (none_begins (32 ∷ []) (tap_line design) (λ t. refl) design.taps (codes "end" ∷ []) refl));
  component = none_begins (codes "component ") (link_line design) (λ l. refl) design.links (behind_links design)
      (none_begins (codes "component ") (feed_line design) (λ f. refl) design.feeds (behind_feeds design)
      (none_begins (codes "component ") (tap_line design) (λ t. refl) design.taps (codes "end" ∷ []) refl));
}

-- ---- components
sound : (period : ℕ) (cs : List Component) (programs : List CodeParts) → All (IsComponent period) cs
    → All (λ p. IsCodeOf p.0.behaviour p.1) (zip cs programs) → AllFit cs programs
    → AreSound period cs programs
sound period [] programs rules each fit = All-nil (λ p. IsSound period p.0 p.1)
sound period (c ∷ cs) [] rules each fit = All-nil (λ p. IsSound period p.0 p.1)
sound period (c ∷ cs) (code ∷ programs) rules each fit =
    let rest = zip cs programs in
    All-cons (λ p. IsSound period p.0 p.1) (c, code) rest
    (record {
      rule = All-head (IsComponent period) c cs rules;
      is_code = All-head (λ p. IsCodeOf p.0.behaviour p.1) (c, code) rest each;
      fit = All-head (λ p. NumbersFit p.0.behaviour p.1) (c, code) rest fit;
    })
    (sound period cs programs (All-tail (IsComponent period) c cs rules)
    (All-tail (λ p. IsCodeOf p.0.behaviour p.1) (c, code) rest each)
    (All-tail (λ p. NumbersFit p.0.behaviour p.1) (c, code) rest fit))

-- the parts that are determined have the ports
ports_in : (ports : BehaviourParts → List PortDecl) (view : ToldComponent → Ported)
    → ((c : Component) (code : CodeParts) → view (told_component c code) ≡ ported ports c)
    → (cs : List Component) (programs : List CodeParts) → length programs ≡ length cs
    → map view (told_components cs programs) ≡ map (ported ports) cs
ports_in ports view has [] programs many = refl
ports_in ports view has (c ∷ cs) [] many = absurd (omega arith)
ports_in ports view has (c ∷ cs) (code ∷ programs) many =
    ap₂ (λ x xs. x ∷ xs) (has c code) (ports_in ports view has cs programs (omega arith))

alike : (design other : DesignParts) (programs others : List CodeParts) → AreListed design programs
    → AreListed other others
    → told_components design.components programs ≡ told_components other.components others → AreAlike design other
alike design other programs others listed listed_other same =
    let outs = λ (t : ToldComponent). (let c : Ported = record { path = t.path; names = names_of t.outs } in c) in
    let ins =
    λ (t : ToldComponent). (let c : Ported = record { path = t.path; names = names_of t.ins } in c) in record {
      rules = listed.rules;
      rules_other = listed_other.rules;
      outs = sym (ports_in outs_of outs (λ c code. refl) design.components programs listed.count) ∙ ap (map outs) same
          ∙ ports_in outs_of outs (λ c code. refl) other.components others listed_other.count;
      ins = sym (ports_in ins_of ins (λ c code. refl) design.components programs listed.count) ∙ ap (map ins) same
          ∙ ports_in ins_of ins (λ c code. refl) other.components others listed_other.count;
    }

-- ---- the law
lines_told : (design other : DesignParts) (programs others : List CodeParts) → AreListed design programs
    → AreListed other others
    → lines_in_order design programs ≡ lines_in_order other others
    → told_design design programs ≡ told_design other others
lines_told design other programs others listed listed_other same =
    let rules = listed.rules in
    let rules_other = listed_other.rules in
    let small = times design.gamma rules.gamma in
    let small_other = times other.gamma rules_other.gamma in
    let with_first = cons_told _ _ _ _ same in
    let with_period = cons_told _ _ _ _ with_first.1 in
    let with_skew = cons_told _ _ _ _ with_period.1 in
    let with_execution = cons_told _ _ _ _ with_skew.1 in
    let with_network = cons_told _ _ _ _ with_execution.1 in
    let period =
    bound_told (codes "period") design.period other.period refl (omega (arith, rules.period.1))
    (omega (arith, rules_other.period.1)) with_period.0 in
    let skew = bound_told (codes "skew") design.gamma.eps other.gamma.eps refl small.eps small_other.eps with_skew.0 in
    let execution =
    range_told (codes "execution") design.gamma.alpha_min design.gamma.alpha_max other.gamma.alpha_min
    other.gamma.alpha_max refl
    small.alpha_min small.alpha_max small_other.alpha_min small_other.alpha_max with_execution.0 in
    let network =
    range_told (codes "network") design.gamma.mu_min design.gamma.mu_max other.gamma.mu_min other.gamma.mu_max refl
    small.mu_min small.mu_max small_other.mu_min small_other.mu_max with_network.0 in
    let with_components =
    all_told design other design.components other.components programs others (behind_components design)
    (behind_components other) listed.count listed_other.count
    (sound design.period design.components programs rules.components.each listed.each listed.fit)
    (sound other.period other.components others rules_other.components.each listed_other.each listed_other.fit)
    (ends_components design) (ends_components other) with_network.1 in
    let names = alike design other programs others listed listed_other with_components.0 in
    let with_links =
    run_parted (codes "link ") (link_line design) (link_line other) (λ l. refl) (λ l. refl) design.links other.links
    (behind_links design) (behind_links other)
    (none_begins (codes "link ") (feed_line design) (λ f. refl) design.feeds (behind_feeds design)
    (none_begins (codes "link ") (tap_line design) (λ t. refl) design.taps (codes "end" ∷ []) refl))
    (none_begins (codes "link ") (feed_line other) (λ f. refl) other.feeds (behind_feeds other)
    (none_begins (codes "link ") (tap_line other) (λ t. refl) other.taps (codes "end" ∷ []) refl))
    with_components.1 in
    let with_feeds =
    run_parted (codes "input ") (feed_line design) (feed_line other) (λ f. refl) (λ f. refl) design.feeds
    other.feeds (behind_feeds design) (behind_feeds other)
    (none_begins (codes "input ") (tap_line design) (λ t. refl) design.taps (codes "end" ∷ []) refl)
    (none_begins (codes "input ") (tap_line other) (λ t. refl) other.taps (codes "end" ∷ []) refl)
    with_links.1 in
    let with_taps =
    run_parted (codes "output ") (tap_line design) (tap_line other) (λ t. refl) (λ t. refl) design.taps other.taps
    (codes "end" ∷ []) (codes "end" ∷ []) refl refl with_feeds.1 in
    let links =
    items_told (link_line design) (link_line other) (IsLink design) (IsLink other) (link_told design other names)
    design.links other.links rules.links.each rules_other.links.each with_links.0 in
    let feeds =
    items_told (feed_line design) (feed_line other) (IsFeed design) (IsFeed other) (feed_told design other names)
    design.feeds other.feeds rules.feeds.each rules_other.feeds.each with_feeds.0 in
    let taps =
    items_told (tap_line design) (tap_line other) (IsTap design) (IsTap other) (tap_told design other names)
    design.taps other.taps rules.taps.each rules_other.taps.each with_taps.0 in
    λ k. record {
      period = period k;
      gamma =
          record {
            eps = skew k;
            alpha_min = execution.0 k;
            alpha_max = execution.1 k;
            mu_min = network.0 k;
            mu_max = network.1 k;
          };
      components = with_components.0 k;
      links = links k;
      feeds = feeds k;
      taps = taps k;
    }

pub listing_tells : ListingTells
listing_tells design other programs others listed listed_other same =
    lines_told design other programs others listed listed_other
    (same_lines (lines_in_order design programs) (lines_in_order other others)
    (listing_has_lines design programs listed.rules) (listing_has_lines other others listed_other.rules)
    (ap text_of (sym (in_order design programs)) ∙ same ∙ ap text_of (in_order other others)))
