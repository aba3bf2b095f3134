-- For `add_links`, `add_feeds` and `empty_table`: the table of the sources of in ports, with one link, feed or
-- component more.
use Rattle.std.proofs.Common.{◌≡◌, ◌≢◌, ℕ, zero, suc, ◌+◌, ◌-◌, ◌<◌, ◌≤◌, Bool, true, false, ◌&&◌, nat_eq, cond, List}
use Rattle.std.proofs.Common.{[], ◌∷◌, ◌++◌, length, map, drop, replicate, Some, refl, sym, ap, ap₂, ◌∙◌, arith}
use Rattle.std.proofs.Common.{zero-add, append_assoc}
use Rattle.std.specs.Prelude.{Option, slice_set, slice_index_or}
use Rattle.std.specs.List.{enumerate_from, position_from}
use Rattle.std.proofs.lemmas.Bool.{ne_eqb, eq-eqb}
use Rattle.std.proofs.lemmas.List.{drop_more, get_or_default, drop_all}
use Rattle.std.proofs.lemmas.Iterator.Adapters.{position_from-zero}
use Rattle.pals_base.specs.UpwardNumbers.{upwards}
use Rattle.pals_base.proofs.CycleSearchMarks.{map-same}
use Rattle.pals_model.specs.declared.design.Component.{Component}
use Rattle.pals_model.specs.declared.design.Link.{Link}
use Rattle.pals_model.specs.declared.design.Feed.{Feed}
use Rattle.pals_model.specs.declared.design.DesignParts.{DesignParts}
use Rattle.pals_model.specs.declared.port_sources.PortSource.{PortSource}
use Rattle.pals_model.specs.declared.port_sources.PortSource.TheVariants as source
use Rattle.pals_model.specs.ComponentInputs.{from_feed, from_link, link_goes_to, feed_goes_to, place_of, root_inputs}
use Rattle.pals_model.specs.ComponentInputs.{root_of, all_sources}
use Rattle.pals_model.specs.proof.SourceTables.{table_of, nothing, fed_from, linked_from, with_source}

-- another source for one in port
abbrev pub patched : (ℕ → ℕ → PortSource) → ℕ → ℕ → PortSource → ℕ → ℕ → PortSource
patched f node port s n p = cond (nat_eq node n && nat_eq port p) s (f n p)

-- the sources of a numbered component
abbrev pub row : (ℕ → ℕ → PortSource) → ℕ × Component → List PortSource
row f numbered = map (f numbered.0) (upwards 0 (length numbered.1.behaviour.ins))

-- ---- one row
ports_past : (g : ℕ → PortSource) (s : PortSource) (port k m : ℕ) → port < k
    → map (λ p. cond (nat_eq port p) s (g p)) (upwards k m) ≡ map g (upwards k m)
ports_past g s port k zero below = refl
ports_past g s port k (suc m) below =
    let other : port ≢ k = omega arith in
    ap₂ (λ x xs. x ∷ xs) (ap (λ b. cond b s (g k)) (ne_eqb port k other)) (ports_past g s port (suc k) m (omega arith))

row_set : (g : ℕ → PortSource) (s : PortSource) (k m i port : ℕ) → k + i ≡ port
    → slice_set (map g (upwards k m)) i s ≡ map (λ p. cond (nat_eq port p) s (g p)) (upwards k m)
row_set g s k zero i port is = refl
row_set g s k (suc m) zero port is =
    let here : port ≡ k = omega arith in
    ap₂ (λ x xs. x ∷ xs) (sym (ap (λ b. cond b s (g k)) (eq-eqb port k here)))
    (sym (ports_past g s port (suc k) m (omega arith)))
row_set g s k (suc m) (suc i) port is =
    let other : port ≢ k = omega arith in
    ap₂ (λ x xs. x ∷ xs) (sym (ap (λ b. cond b s (g k)) (ne_eqb port k other)))
    (row_set g s (suc k) m i port (omega arith))

-- ---- the table
rows_past : (f : ℕ → ℕ → PortSource) (node port : ℕ) (s : PortSource) (k : ℕ) (cs : List Component) → node < k
    → map (row (patched f node port s)) (enumerate_from k cs) ≡ map (row f) (enumerate_from k cs)
rows_past f node port s k [] below = refl
rows_past f node port s k (c ∷ cs) below =
    let other : node ≢ k = omega arith in
    ap₂ (λ x xs. x ∷ xs)
    (map-same (patched f node port s k) (f k)
    (λ p. ap (λ b. cond (b && nat_eq port p) s (f k p)) (ne_eqb node k other)) (upwards 0 (length c.behaviour.ins)))
    (rows_past f node port s (k + 1) cs (omega arith))

rows_set : (f : ℕ → ℕ → PortSource) (node port : ℕ) (s : PortSource) (k i : ℕ) (cs : List Component) → k + i ≡ node
    → with_source (map (row f) (enumerate_from k cs)) i port s ≡ map (row (patched f node port s)) (enumerate_from k cs)
rows_set f node port s k i [] is = refl
rows_set f node port s k zero (c ∷ cs) is =
    let here : node ≡ k = omega arith in
    ap₂ (λ x xs. x ∷ xs)
    (row_set (f k) s 0 (length c.behaviour.ins) port port (zero-add port)
    ∙ map-same (λ p. cond (nat_eq port p) s (f k p)) (patched f node port s k)
    (λ p. sym (ap (λ b. cond (b && nat_eq port p) s (f k p)) (eq-eqb node k here)))
    (upwards 0 (length c.behaviour.ins)))
    (sym (rows_past f node port s (k + 1) cs (omega arith)))
rows_set f node port s k (suc i) (c ∷ cs) is =
    let other : node ≢ k = omega arith in
    ap₂ (λ x xs. x ∷ xs)
    (sym (map-same (patched f node port s k) (f k)
    (λ p. ap (λ b. cond (b && nat_eq port p) s (f k p)) (ne_eqb node k other)) (upwards 0 (length c.behaviour.ins))))
    (rows_set f node port s (k + 1) i cs (omega arith))

table_set : (cs : List Component) (f : ℕ → ℕ → PortSource) (node port : ℕ) (s : PortSource)
    → with_source (table_of cs f) node port s ≡ table_of cs (patched f node port s)
table_set cs f node port s = rows_set f node port s 0 node cs (zero-add node)

table_same : (f g : ℕ → ℕ → PortSource) → ((n p : ℕ) → f n p ≡ g n p) → (k : ℕ) (cs : List Component)
    → map (row f) (enumerate_from k cs) ≡ map (row g) (enumerate_from k cs)
table_same f g same k [] = refl
table_same f g same k (c ∷ cs) =
    ap₂ (λ x xs. x ∷ xs) (map-same (f k) (g k) (same k) (upwards 0 (length c.behaviour.ins)))
    (table_same f g same (k + 1) cs)

-- ---- links
one_link : (b : Bool) (at : ℕ) (later : Option ℕ) (otherwise : PortSource)
    → cond b (source.Link at) (from_link later otherwise) ≡ from_link (cond b (Some at) later) otherwise
one_link true at later otherwise = refl
one_link false at later otherwise = refl

-- one more link, from the last to the first
pub links_step : (design : DesignParts) (at : ℕ) (link : Link) → at < length design.links
    → link ≡ slice_index_or design.links at link
    → with_source (table_of design.components (linked_from design (at + 1))) link.target.0 link.in_port (source.Link at)
    ≡ table_of design.components (linked_from design at)
links_step design at link within is =
    let split : drop at design.links ≡ link ∷ drop (at + 1) design.links = drop_more design.links at link within
    ∙ ap (λ l. l ∷ drop (at + 1) design.links) (sym is) in
    table_set design.components (linked_from design (at + 1)) link.target.0 link.in_port (source.Link at)
    ∙ table_same _ _
    (λ n p. one_link (link_goes_to n p link) at (position_from (link_goes_to n p) (at + 1) (drop (at + 1) design.links))
    (fed_from design 0 n p)
    ∙ ap (λ ls. from_link (position_from (link_goes_to n p) at ls) (fed_from design 0 n p)) (sym split)) 0
    design.components

-- a step of the links, as a loop comes to it
pub links_turn : (design : DesignParts) (links : List Link) (table after : List (List PortSource)) (at : ℕ) (d : Link)
    → links ≡ design.links → 0 < at → at ≤ length links
    → table ≡ table_of design.components (linked_from design at)
    → after ≡ with_source table (slice_index_or links (at - 1) d).target.0 (slice_index_or links (at - 1) d).in_port
    (source.Link (at - 1))
    → after ≡ table_of design.components (linked_from design (at - 1))
links_turn design links table after at d same some' within before is =
    let link = slice_index_or design.links (at - 1) d in
    let inside : at - 1 < length design.links = omega (arith, ap length same) in
    let back : at ≡ (at - 1) + 1 = omega arith in
    is
    ∙ ap (λ ls. with_source table (slice_index_or ls (at - 1) d).target.0 (slice_index_or ls (at - 1) d).in_port
    (source.Link (at - 1))) same
    ∙ ap (λ t. with_source t link.target.0 link.in_port (source.Link (at - 1)))
    (before ∙ ap (λ n. table_of design.components (linked_from design n)) back)
    ∙ links_step design (at - 1) link inside (get_or_default design.links (at - 1) d link inside)

pub links_begin : (design : DesignParts) (n : ℕ) → n ≡ length design.links
    → table_of design.components (fed_from design 0) ≡ table_of design.components (linked_from design n)
links_begin design n is =
    table_same _ _ (λ node port.
    ap (λ ls. from_link (position_from (link_goes_to node port) n ls) (fed_from design 0 node port))
    (sym (drop_all n design.links (omega arith)))) 0 design.components

pub links_end : (design : DesignParts) → table_of design.components (linked_from design 0) ≡ all_sources design
links_end design =
    table_same _ _
    (λ n p. ap₂ from_link (sym (position_from-zero (link_goes_to n p) design.links))
    (ap (from_feed design) (sym (position_from-zero (feed_goes_to n p) design.feeds)))) 0 design.components

-- ---- feeds
one_feed : (design : DesignParts) (b : Bool) (at : ℕ) (later : Option ℕ)
    → cond b (source.Feed at (root_of design at)) (from_feed design later) ≡ from_feed design (cond b (Some at) later)
one_feed design true at later = refl
one_feed design false at later = refl

name_at : (feeds : List Feed) (at : ℕ) (feed : Feed) → at < length feeds → feed ≡ slice_index_or feeds at feed
    → feed.name ≡ slice_index_or (map (λ (f : Feed). f.name) feeds) at []
name_at [] at feed within is = absurd (omega arith)
name_at (f ∷ fs) zero feed within is = ap (λ (g : Feed). g.name) is
name_at (f ∷ fs) (suc at) feed within is = name_at fs at feed (omega arith) is

pub feeds_step : (design : DesignParts) (at root : ℕ) (feed : Feed) → at < length design.feeds
    → feed ≡ slice_index_or design.feeds at feed → root ≡ place_of feed.name (root_inputs design)
    → with_source (table_of design.components (fed_from design (at + 1))) feed.target.0 feed.in_port
    (source.Feed at root) ≡ table_of design.components (fed_from design at)
feeds_step design at root feed within is place =
    let split : drop at design.feeds ≡ feed ∷ drop (at + 1) design.feeds = drop_more design.feeds at feed within
    ∙ ap (λ f. f ∷ drop (at + 1) design.feeds) (sym is) in
    let root_is : root ≡ root_of design at = place
    ∙ ap (λ name. place_of name (root_inputs design)) (name_at design.feeds at feed within is) in
    ap (λ r. with_source (table_of design.components (fed_from design (at + 1))) feed.target.0 feed.in_port
    (source.Feed at r)) root_is
    ∙ table_set design.components (fed_from design (at + 1)) feed.target.0 feed.in_port
    (source.Feed at (root_of design at))
    ∙ table_same _ _
    (λ n p. one_feed design (feed_goes_to n p feed) at
    (position_from (feed_goes_to n p) (at + 1) (drop (at + 1) design.feeds))
    ∙ ap (λ fs. from_feed design (position_from (feed_goes_to n p) at fs)) (sym split)) 0 design.components

-- a step of the feeds, as a loop comes to it
pub feeds_turn : (design : DesignParts) (feeds : List Feed) (table after : List (List PortSource)) (at root : ℕ)
    (feed : Feed) → feeds ≡ design.feeds → 0 < at → at ≤ length feeds
    → feed ≡ slice_index_or feeds (at - 1) feed → root ≡ place_of feed.name (root_inputs design)
    → table ≡ table_of design.components (fed_from design at)
    → after ≡ with_source table feed.target.0 feed.in_port (source.Feed (at - 1) root)
    → after ≡ table_of design.components (fed_from design (at - 1))
feeds_turn design feeds table after at root feed same some' within item place before is =
    let inside : at - 1 < length design.feeds = omega (arith, ap length same) in
    let back : at ≡ (at - 1) + 1 = omega arith in
    is
    ∙ ap (λ t. with_source t feed.target.0 feed.in_port (source.Feed (at - 1) root))
    (before ∙ ap (λ n. table_of design.components (fed_from design n)) back)
    ∙ feeds_step design (at - 1) root feed inside (item ∙ ap (λ fs. slice_index_or fs (at - 1) feed) same) place

pub feeds_begin : (design : DesignParts) (n : ℕ) → n ≡ length design.feeds
    → table_of design.components nothing ≡ table_of design.components (fed_from design n)
feeds_begin design n is =
    table_same _ _ (λ node port.
    ap (λ fs. from_feed design (position_from (feed_goes_to node port) n fs))
    (sym (drop_all n design.feeds (omega arith)))) 0 design.components

-- ---- nothing yet
nothings : (node k n : ℕ) → replicate n source.Nothing ≡ map (nothing node) (upwards k n)
nothings node k zero = refl
nothings node k (suc n) = ap (λ xs. source.Nothing ∷ xs) (nothings node (suc k) n)

-- one more component
pub empty_step : (table : List (List PortSource)) (k : ℕ) (c : Component) (cs : List Component)
    (found : List PortSource) (ports : ℕ) (total : List (List PortSource)) → found ≡ replicate ports source.Nothing
    → ports ≡ length c.behaviour.ins
    → table ++ map (row nothing) (enumerate_from k (c ∷ cs)) ≡ total
    → (table ++ found ∷ []) ++ map (row nothing) (enumerate_from (k + 1) cs) ≡ total
empty_step table k c cs found ports total is count before =
    append_assoc table (found ∷ []) (map (row nothing) (enumerate_from (k + 1) cs))
    ∙ ap (λ r. table ++ r ∷ map (row nothing) (enumerate_from (k + 1) cs))
    (is ∙ ap (λ n. replicate n source.Nothing) count ∙ nothings k 0 (length c.behaviour.ins))
    ∙ before
