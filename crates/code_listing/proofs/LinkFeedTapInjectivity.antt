-- The lines of links, feeds and taps determine them.
use Rattle.std.proofs.Common.{◌≡◌, ℕ, ◌/◌, ◌^◌, ◌<◌, ◌≤◌, nat_lt, nat_le, Bool, true, false, ◌&&◌, if◌then◌else◌, List}
use Rattle.std.proofs.Common.{[], ◌∷◌, ◌++◌, map, Option, Some, None, slice_get, refl, sym, ap, ap₂, ◌∙◌, subst, arith}
use Rattle.std.proofs.Common.{append_assoc}
use Rattle.std.specs.Prelude.{codes, decimal, bytes_eq, slice_index_or, IsTrue}
use Rattle.std.proofs.Math.Nat.{div-le_self}
use Rattle.std.proofs.lemmas.Bool.{and_parts, leb-true}
use Rattle.std.proofs.lemmas.List.{append-nil}
use Rattle.std.proofs.lemmas.List.Folds.{list_all-append}
use Rattle.pals_base.specs.declared.allowed_adaptors.Adaptor.{Adaptor}
use Rattle.pals_base.specs.declared.allowed_adaptors.Adaptor.TheVariants.{Repeat, First, Last, At, Latest, Max, Min}
use Rattle.pals_base.specs.declared.allowed_adaptors.Adaptor.TheVariants.{Average}
use Rattle.pals_base.specs.declared.limits.TheConstants.{RATE}
use Rattle.pals_base.specs.AllowedAdaptors.{is_allowed}
use Rattle.pals_model.specs.declared.design.Component.{Component}
use Rattle.pals_model.specs.declared.design.Link.{Link}
use Rattle.pals_model.specs.declared.design.Feed.{Feed}
use Rattle.pals_model.specs.declared.design.Tap.{Tap}
use Rattle.pals_model.specs.declared.design.DesignParts.{DesignParts}
use Rattle.pals_model.specs.PortKindsAndRates.{rate_of, rate_in}
use Rattle.pals_model.specs.ComponentAndLinkNames.{port_name, in_port_name, target_name, link_name}
use Rattle.pals_model.specs.DesignRules.{IsDesign, IsComponent, IsSource, IsTarget, IsLink, IsFeed, IsTap}
use Rattle.pals_model.proofs.FirstMatches.{at_element}
use Rattle.pals_model.proofs.WordBytes.{word_inner, path_inner}
use Rattle.pals_runs.specs.JournalLines.{spaced}
use Rattle.pals_report.specs.CheckReports.{adaptor_text, and_adaptor, out_port_name, source_name, link_line, feed_line}
use Rattle.pals_report.specs.CheckReports.{tap_line}
use Rattle.code_listing.proofs.LinesAndWords.{is_plain, ArePlain, same_words, decimal_plain}
use Rattle.code_listing.proofs.PlainNames.{names_are_plain, port_plain}
use Rattle.code_listing.proofs.PortNames.{outs_of, ins_of, ported, full_name, source_named, target_named, outs_apart}
use Rattle.code_listing.proofs.PortNames.{ins_apart, IsThere, source_there, target_there, ports_told}
use Rattle.code_listing.proofs.SpelledNumbers.{spelled, spelled_is}

-- ---- adaptors
abbrev pub adaptor_words : Option Adaptor → List (List ℕ)
adaptor_words None = []
adaptor_words (Some (At n)) = codes "at" ∷ decimal n ∷ []
adaptor_words (Some adaptor) = adaptor_text adaptor ∷ []

-- a place of 64 bits
abbrev IsSmall : Option Adaptor → Type 0
IsSmall (Some (At n)) = n < 2 ^ 64
IsSmall other = Unit {0}

abbrev is : List ℕ → List ℕ → Bool
is word other = bytes_eq word other

abbrev adaptor_by : List (List ℕ) → Option Adaptor
adaptor_by [] = None
adaptor_by (word ∷ words) =
    if is word (codes "repeat") then Some Repeat
    else if is word (codes "first") then Some First
    else if is word (codes "last") then Some Last
    else if is word (codes "at") then Some (At (spelled (slice_index_or words 0 [])))
    else if is word (codes "latest") then Some Latest
    else if is word (codes "max") then Some Max
    else if is word (codes "min") then Some Min
    else Some Average

adaptor_is : (a : Option Adaptor) → IsSmall a → adaptor_by (adaptor_words a) ≡ a
adaptor_is None small = refl
adaptor_is (Some (At n)) small = ap (λ k. Some (At k)) (spelled_is n small)
adaptor_is (Some other) small = refl

adaptor_told : (a b : Option Adaptor) → IsSmall a → IsSmall b → adaptor_words a ≡ adaptor_words b → a ≡ b
adaptor_told a b small small_other same = sym (adaptor_is a small) ∙ ap adaptor_by same ∙ adaptor_is b small_other

adaptor_plain : (a : Option Adaptor) → ArePlain (adaptor_words a)
adaptor_plain None = tt
adaptor_plain (Some (At n)) = (refl, (decimal_plain n, tt))
adaptor_plain (Some other) = (refl, tt)

-- the place that an adaptor takes is no greater than a rate
place_small : (spread : Bool) (n p q : ℕ) → p ≤ RATE → q ≤ RATE
    → (if spread then (nat_le 1 n && nat_le n (q / p)) else (nat_lt q p && (nat_le 1 n && nat_le n (p / q)))) ≡ true
    → n < 2 ^ 64
place_small true n p q small small_other allowed =
    let most : n ≤ q / p = leb-true n (q / p) (and_parts (nat_le 1 n) (nat_le n (q / p)) allowed).1 in
    omega (arith, most, div-le_self q p)
place_small false n p q small small_other allowed =
    let join = (and_parts (nat_lt q p) (nat_le 1 n && nat_le n (p / q)) allowed).1 in
    let most : n ≤ p / q = leb-true n (p / q) (and_parts (nat_le 1 n) (nat_le n (p / q)) join).1 in
    omega (arith, most, div-le_self p q)

small_if : (a : Option Adaptor) (p q : ℕ) → p ≤ RATE → q ≤ RATE → IsTrue (is_allowed a p q) → IsSmall a
small_if None p q small small_other allowed = tt
small_if (Some (At n)) p q small small_other allowed = place_small (nat_lt p q) n p q small small_other allowed
small_if (Some other) p q small small_other allowed = tt

rate_small : (design : DesignParts) (node : ℕ) → IsDesign design → rate_of design node ≤ RATE
rate_small design node rules = by (slice_get design.components node) refl
  where
    by : (o : Option Component) → slice_get design.components node ≡ o → rate_in o ≤ RATE
    by None is = omega arith
    by (Some c) is = (at_element (IsComponent design.period) design.components node c rules.components.each is).rate.1

-- ---- the words of the lines
with_adaptor : (target : List ℕ) (a : Option Adaptor) → target ++ and_adaptor a ≡ spaced (target ∷ adaptor_words a)
with_adaptor target None = append-nil target
with_adaptor target (Some (At n)) = refl
with_adaptor target (Some other) = refl

arrow : (source target : List ℕ) (a : Option Adaptor)
    → ((source ++ codes " -> ") ++ target) ++ and_adaptor a ≡ spaced (source ∷ codes "->" ∷ target ∷ adaptor_words a)
arrow source target a =
    append_assoc (source ++ codes " -> ") target (and_adaptor a)
    ∙ append_assoc source (codes " -> ") (target ++ and_adaptor a)
    ∙ ap (λ t. source ++ (codes " -> " ++ t)) (with_adaptor target a)

abbrev pub link_words : DesignParts → Link → List (List ℕ)
link_words design link =
    source_name design link.source.0 link.out_port ∷ codes "->" ∷ link_name design link ∷ adaptor_words link.adaptor

pub link_line-is : (design : DesignParts) (link : Link)
    → link_line design link ≡ spaced (codes "link" ∷ link_words design link)
link_line-is design link =
    ap (λ t. codes "link " ++ t)
    (arrow (source_name design link.source.0 link.out_port) (link_name design link) link.adaptor)

abbrev pub feed_words : DesignParts → Feed → List (List ℕ)
feed_words design feed =
    feed.name ∷ codes "->" ∷ target_name design feed.target.0 feed.in_port ∷ adaptor_words feed.adaptor

pub feed_line-is : (design : DesignParts) (feed : Feed)
    → feed_line design feed ≡ spaced (codes "input" ∷ feed_words design feed)
feed_line-is design feed =
    ap (λ t. codes "input " ++ t) (arrow feed.name (target_name design feed.target.0 feed.in_port) feed.adaptor)

abbrev pub tap_words : DesignParts → Tap → List (List ℕ)
tap_words design tap = source_name design tap.source.0 tap.out_port ∷ codes "->" ∷ tap.name ∷ []

pub tap_line-is : (design : DesignParts) (tap : Tap)
    → tap_line design tap ≡ spaced (codes "output" ∷ tap_words design tap)
tap_line-is design tap =
    ap (λ t. codes "output " ++ t) (append_assoc (source_name design tap.source.0 tap.out_port) (codes " -> ") tap.name)

-- ---- they are plain
joined_plain : (path name : List ℕ) → is_plain path ≡ true → is_plain name ≡ true
    → is_plain (path ++ codes "." ++ name) ≡ true
joined_plain path name plain plain_name =
    list_all-append _ (path ++ codes ".") name
    ∙ ap₂ (λ a b. a && b) (list_all-append _ path (codes ".") ∙ ap₂ (λ a b. a && b) plain refl) plain_name

source_plain : (design : DesignParts) (node port : ℕ) → IsDesign design → is_plain (source_name design node port) ≡ true
source_plain design node port rules = by (slice_get design.components node) refl
  where
    by : (o : Option Component) → slice_get design.components node ≡ o → is_plain (out_port_name o port) ≡ true
    by None is = refl
    by (Some c) is =
        let rule = at_element (IsComponent design.period) design.components node c rules.components.each is in
        joined_plain c.path (port_name (slice_get c.behaviour.outs port)) (path_inner c.path rule.path)
        (port_plain c.behaviour.outs port (names_are_plain c.behaviour rule.behaviour).outs)

target_plain : (design : DesignParts) (node port : ℕ) → IsDesign design → is_plain (target_name design node port) ≡ true
target_plain design node port rules = by (slice_get design.components node) refl
  where
    by : (o : Option Component) → slice_get design.components node ≡ o → is_plain (in_port_name o port) ≡ true
    by None is = refl
    by (Some c) is =
        let rule = at_element (IsComponent design.period) design.components node c rules.components.each is in
        joined_plain c.path (port_name (slice_get c.behaviour.ins port)) (path_inner c.path rule.path)
        (port_plain c.behaviour.ins port (names_are_plain c.behaviour rule.behaviour).ins)

pub link_plain : (design : DesignParts) (link : Link) → IsDesign design
    → ArePlain (codes "link" ∷ link_words design link)
link_plain design link rules = (
  refl,
  (
    source_plain design link.source.0 link.out_port rules,
    (refl, (target_plain design link.target.0 link.in_port rules, adaptor_plain link.adaptor)),
  ),
)

pub feed_plain : (design : DesignParts) (feed : Feed) → IsDesign design → IsFeed design feed
    → ArePlain (codes "input" ∷ feed_words design feed)
feed_plain design feed rules rule = (
  refl,
  (
    word_inner feed.name rule.name,
    (refl, (target_plain design feed.target.0 feed.in_port rules, adaptor_plain feed.adaptor)),
  ),
)

pub tap_plain : (design : DesignParts) (tap : Tap) → IsDesign design → IsTap design tap
    → ArePlain (codes "output" ∷ tap_words design tap)
tap_plain design tap rules rule =
    (refl, (source_plain design tap.source.0 tap.out_port rules, (refl, (word_inner tap.name rule.name, tt))))

-- ---- the names in two designs
-- their components have the same paths and ports
pub record AreAlike (design other : DesignParts) : Type 0 where
  pub rules : IsDesign design
  pub rules_other : IsDesign other
  pub outs : map (ported outs_of) design.components ≡ map (ported outs_of) other.components
  pub ins : map (ported ins_of) design.components ≡ map (ported ins_of) other.components

source_told : (design other : DesignParts) (node port other_node other_port : ℕ) → AreAlike design other
    → IsSource design node port → IsSource other other_node other_port
    → source_name design node port ≡ source_name other other_node other_port → (node ≡ other_node) × (port ≡ other_port)
source_told design other node port other_node other_port alike source source_other same =
    let cs = map (ported outs_of) design.components in
    ports_told cs node port other_node other_port (outs_apart design alike.rules) (source_there design node port source)
    (subst (λ ds. IsThere ds other_node other_port) (sym alike.outs)
    (source_there other other_node other_port source_other))
    (sym (source_named design node port) ∙ same ∙ source_named other other_node other_port
    ∙ ap (λ ds. full_name (slice_get ds other_node) other_port) (sym alike.outs))

target_told : (design other : DesignParts) (node port other_node other_port : ℕ) → AreAlike design other
    → IsTarget design node port → IsTarget other other_node other_port
    → target_name design node port ≡ target_name other other_node other_port → (node ≡ other_node) × (port ≡ other_port)
target_told design other node port other_node other_port alike target target_other same =
    let cs = map (ported ins_of) design.components in
    ports_told cs node port other_node other_port (ins_apart design alike.rules) (target_there design node port target)
    (subst (λ ds. IsThere ds other_node other_port) (sym alike.ins)
    (target_there other other_node other_port target_other))
    (sym (target_named design node port) ∙ same ∙ target_named other other_node other_port
    ∙ ap (λ ds. full_name (slice_get ds other_node) other_port) (sym alike.ins))

-- ---- the lines determine them
pub link_told : (design other : DesignParts) → AreAlike design other → (x y : Link) → IsLink design x → IsLink other y
    → link_line design x ≡ link_line other y → x ≡ y
link_told design other alike x y rule rule_other same =
    let words =
    same_words (codes "link") (codes "link") (link_words design x) (link_words other y)
    (link_plain design x alike.rules) (link_plain other y alike.rules_other)
    (sym (link_line-is design x) ∙ same ∙ link_line-is other y) in
    let sources : source_name design x.source.0 x.out_port ≡ source_name other y.source.0 y.out_port = cc in
    let targets : link_name design x ≡ link_name other y = cc in
    let adaptors : adaptor_words x.adaptor ≡ adaptor_words y.adaptor = cc in
    let source =
    source_told design other x.source.0 x.out_port y.source.0 y.out_port alike rule.source
    rule_other.source sources in
    let target =
    target_told design other x.target.0 x.in_port y.target.0 y.in_port alike rule.target
    rule_other.target targets in
    let adaptor = adaptor_told x.adaptor y.adaptor
    (small_if x.adaptor (rate_of design x.source.0) (rate_of design x.target.0)
    (rate_small design x.source.0 alike.rules) (rate_small design x.target.0 alike.rules) rule.allowed)
    (small_if y.adaptor (rate_of other y.source.0) (rate_of other y.target.0)
    (rate_small other y.source.0 alike.rules_other) (rate_small other y.target.0 alike.rules_other)
    rule_other.allowed)
    adaptors in
    λ k. record {
      source = record { 0 = source.0 k };
      out_port = source.1 k;
      target = record { 0 = target.0 k };
      in_port = target.1 k;
      adaptor = adaptor k;
    }

pub feed_told : (design other : DesignParts) → AreAlike design other → (x y : Feed) → IsFeed design x → IsFeed other y
    → feed_line design x ≡ feed_line other y → x ≡ y
feed_told design other alike x y rule rule_other same =
    let words =
    same_words (codes "input") (codes "input") (feed_words design x) (feed_words other y)
    (feed_plain design x alike.rules rule) (feed_plain other y alike.rules_other rule_other)
    (sym (feed_line-is design x) ∙ same ∙ feed_line-is other y) in
    let name : x.name ≡ y.name = cc in
    let targets : target_name design x.target.0 x.in_port ≡ target_name other y.target.0 y.in_port = cc in
    let adaptors : adaptor_words x.adaptor ≡ adaptor_words y.adaptor = cc in
    let target =
    target_told design other x.target.0 x.in_port y.target.0 y.in_port alike rule.target
    rule_other.target targets in
    let adaptor = adaptor_told x.adaptor y.adaptor
    (small_if x.adaptor 1 (rate_of design x.target.0) (omega arith) (rate_small design x.target.0 alike.rules)
    rule.allowed)
    (small_if y.adaptor 1 (rate_of other y.target.0) (omega arith) (rate_small other y.target.0 alike.rules_other)
    rule_other.allowed)
    adaptors in
    λ k. record { name = name k; target = record { 0 = target.0 k }; in_port = target.1 k; adaptor = adaptor k }

pub tap_told : (design other : DesignParts) → AreAlike design other → (x y : Tap) → IsTap design x → IsTap other y
    → tap_line design x ≡ tap_line other y → x ≡ y
tap_told design other alike x y rule rule_other same =
    let words =
    same_words (codes "output") (codes "output") (tap_words design x) (tap_words other y)
    (tap_plain design x alike.rules rule) (tap_plain other y alike.rules_other rule_other)
    (sym (tap_line-is design x) ∙ same ∙ tap_line-is other y) in
    let sources : source_name design x.source.0 x.out_port ≡ source_name other y.source.0 y.out_port = cc in
    let name : x.name ≡ y.name = cc in
    let source =
    source_told design other x.source.0 x.out_port y.source.0 y.out_port alike rule.source
    rule_other.source sources in
    λ k. record { name = name k; source = record { 0 = source.0 k }; out_port = source.1 k }
