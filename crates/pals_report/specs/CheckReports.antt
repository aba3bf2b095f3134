-- The output of `check` for an accepted design.
use Rattle.std.specs.Prelude.{◌≡◌, ℕ, codes, decimal, List, [], ◌∷◌, ◌++◌, map, Option, Some, None, slice_get}
use Rattle.std.specs.Prelude.{MatchOption}
use Rattle.pals_base.specs.declared.allowed_adaptors.Adaptor.{Adaptor}
use Rattle.pals_base.specs.declared.allowed_adaptors.Adaptor.TheVariants.{Repeat, First, Last, At, Latest, Max, Min}
use Rattle.pals_base.specs.declared.allowed_adaptors.Adaptor.TheVariants.{Average}
use Rattle.pals_base.specs.PeriodBoundAndReleases.{backoff, least_period}
use Rattle.pals_model.specs.declared.design.Component.{Component}
use Rattle.pals_model.specs.declared.design.Link.{Link}
use Rattle.pals_model.specs.declared.design.Feed.{Feed}
use Rattle.pals_model.specs.declared.design.Tap.{Tap}
use Rattle.pals_model.specs.declared.design.DesignParts.{DesignParts}
use Rattle.pals_model.specs.ComponentAndLinkNames.{port_name, target_name, link_name}
use Rattle.pals_model.specs.RoundTexts.{text_of}
use Rattle.pals_model.specs.DesignRules.{greatest_rate}
use Rattle.bound_checker.specs.LeastMultiples.{IsLeastMultiple, HasNoMultiple}

-- ---- a space and an adaptor
abbrev pub adaptor_text : Adaptor → List ℕ
adaptor_text Repeat = codes "repeat"
adaptor_text First = codes "first"
adaptor_text Last = codes "last"
adaptor_text (At n) = codes "at " ++ decimal n
adaptor_text Latest = codes "latest"
adaptor_text Max = codes "max"
adaptor_text Min = codes "min"
adaptor_text Average = codes "average"

abbrev pub and_adaptor : Option Adaptor → List ℕ
and_adaptor None = []
and_adaptor (Some adaptor) = codes " " ++ adaptor_text adaptor

-- ---- names of out ports: the component's path, a `.`, and the port's own name
abbrev pub out_port_name : Option Component → ℕ → List ℕ
out_port_name None port = []
out_port_name (Some c) port = c.path ++ codes "." ++ port_name (slice_get c.behaviour.outs port)

abbrev pub source_name : DesignParts → ℕ → ℕ → List ℕ
source_name design node port = out_port_name (slice_get design.components node) port

-- ---- one line for each component, link, feed, tap and name without meaning
abbrev pub component_line : Component → List ℕ
component_line c = codes "component " ++ c.path ++ codes " rate " ++ decimal c.rate

abbrev pub link_line : DesignParts → Link → List ℕ
link_line design link =
    codes "link " ++ source_name design link.source.0 link.out_port ++ codes " -> " ++ link_name design link
    ++ and_adaptor link.adaptor

abbrev pub feed_line : DesignParts → Feed → List ℕ
feed_line design feed =
    codes "input " ++ feed.name ++ codes " -> " ++ target_name design feed.target.0 feed.in_port
    ++ and_adaptor feed.adaptor

abbrev pub tap_line : DesignParts → Tap → List ℕ
tap_line design tap = codes "output " ++ source_name design tap.source.0 tap.out_port ++ codes " -> " ++ tap.name

abbrev pub ignored_line : List ℕ → List ℕ
ignored_line name = codes "ignored " ++ name

-- ---- periods
abbrev pub rate_of : Component → ℕ
rate_of c = c.rate

abbrev pub rates : DesignParts → List ℕ
rates design = map rate_of design.components

-- the shortest period for these rates that the bound allows, or `None` if it would be longer than one hour
abbrev pub IsShortest : DesignParts → Option ℕ → Type 0
IsShortest design shortest =
    MatchOption shortest (HasNoMultiple design.gamma (rates design)) (IsLeastMultiple design.gamma (rates design))

-- a word and a time in nanoseconds
unfoldable pub time_line : List ℕ → ℕ → List ℕ
time_line word time = word ++ decimal time

abbrev pub shortest_word : Option ℕ → List ℕ
shortest_word None = codes "none"
shortest_word (Some period) = decimal period

unfoldable pub period_lines : DesignParts → Option ℕ → List (List ℕ)
period_lines design shortest =
    codes "accepted" ∷ time_line (codes "period ") design.period
    ∷ time_line (codes "least ") (least_period design.gamma (greatest_rate design.components))
    ∷ (codes "shortest " ++ shortest_word shortest) ∷ time_line (codes "backoff ") (backoff design.gamma) ∷ []

-- ---- the whole text
abbrev pub check_lines : DesignParts → Option ℕ → List (List ℕ)
check_lines design shortest =
    period_lines design shortest ++ map component_line design.components ++ map (link_line design) design.links
    ++ map (feed_line design) design.feeds
    ++ map (tap_line design) design.taps ++ map ignored_line design.ignored

pub record IsCheckReport (design : DesignParts) (text : List ℕ) : Type 0 where
  pub shortest : Option ℕ
  pub is_shortest : IsShortest design shortest
  pub text_is : text ≡ text_of (check_lines design shortest)
