-- In a renumbered design, each component, link and feed is there under its other number.
use Rattle.std.proofs.Common.{◌≡◌, ◌∙◌, ℕ, ◌<◌, Bool, true, false, nat_eq, length, Some, slice_get, refl, sym, ap}
use Rattle.std.proofs.lemmas.Bool.{eq-eqb, eqb-true, ne_eqb, true≢false}
use Rattle.std.proofs.lemmas.Option.{slice_get_within}
use Rattle.pals_model.specs.declared.design.Component.{Component}
use Rattle.pals_model.specs.declared.design.Link.{Link}
use Rattle.pals_model.specs.declared.design.Feed.{Feed}
use Rattle.pals_model.specs.declared.design.DesignParts.{DesignParts}
use Rattle.pals_model.specs.PortKindsAndRates.{rate_of, rate_in}
use Rattle.sync_product.specs.proof.RenumberedDesigns.{renumbered_link, renumbered_feed, IsRenumbered}
use Rattle.sync_product.proofs.ImageMembers.{there, comes_from}

module _ (to : ℕ → ℕ) (a b : DesignParts) (r : IsRenumbered to a b) where
  -- ---- components
  pub component_there : (node : ℕ) (c : Component) → slice_get a.components node ≡ Some c
      → slice_get b.components (to node) ≡ Some c
  component_there node c is = r.component node (slice_get_within a.components node c is) ∙ is

  pub rate_there : (node : ℕ) → node < length a.components → rate_of b (to node) ≡ rate_of a node
  rate_there node within = ap rate_in (r.component node within)

  number_by : (m n : ℕ) → m < length a.components → n < length a.components → (same : Bool) → nat_eq m n ≡ same
      → nat_eq (to m) (to n) ≡ same
  number_by m n first second true is = eq-eqb (to m) (to n) (ap to (eqb-true m n is))
  number_by m n first second false is =
      ne_eqb (to m) (to n) (λ same. true≢false (sym (eq-eqb m n (r.one_each m n first second same)) ∙ is))

  -- two numbers are the same where the other ones are
  pub same_number : (m n : ℕ) → m < length a.components → n < length a.components → nat_eq (to m) (to n) ≡ nat_eq m n
  same_number m n first second = number_by m n first second (nat_eq m n) refl

  -- ---- links
  pub link_there : (l : ℕ) (link : Link) → slice_get a.links l ≡ Some link
      → (m : ℕ) × (slice_get b.links m ≡ Some (renumbered_link to link))
  link_there l link is = there (renumbered_link to) a.links b.links r.links l link is

  -- ---- feeds
  pub feed_there : (f : ℕ) (feed : Feed) → slice_get a.feeds f ≡ Some feed
      → (g : ℕ) × (slice_get b.feeds g ≡ Some (renumbered_feed to feed))
  feed_there f feed is = there (renumbered_feed to) a.feeds b.feeds r.feeds f feed is

  pub feed_back : (g : ℕ) (other : Feed) → slice_get b.feeds g ≡ Some other
      → (f : ℕ) × (feed : Feed) × (slice_get a.feeds f ≡ Some feed) × (renumbered_feed to feed ≡ other)
  feed_back g other is = comes_from (renumbered_feed to) a.feeds b.feeds r.feeds g other is
