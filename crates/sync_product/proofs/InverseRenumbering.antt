-- A renumbering of components can be undone by another one.
use Rattle.std.proofs.Common.{◌≡◌, ◌≢◌, ◌∙◌, inl, inr, ℕ, zero, suc, ◌<◌, Bool, nat_eq, List, length, get_or, Some}
use Rattle.std.proofs.Common.{slice_get, Contains, sym, ap, ap₂, subst, arith}
use Rattle.std.proofs.lemmas.Bool.{eqb-true, eq-eqb, true≢false}
use Rattle.std.proofs.lemmas.List.Elements.{All-contains, Contains-get_or}
use Rattle.std.proofs.lemmas.Option.{slice_get_within}
use Rattle.list_lemmas.proofs.ElementPositions.{Contains-from_slice_get, slice_get-from_Contains, slice_get-map_some}
use Rattle.list_lemmas.proofs.ElementPositions.{slice_get-map_parts}
use Rattle.pals_model.specs.declared.design.Link.{Link}
use Rattle.pals_model.specs.declared.design.Feed.{Feed}
use Rattle.pals_model.specs.declared.design.DesignParts.{DesignParts}
use Rattle.pals_model.specs.declared.environment.Env.{Env}
use Rattle.pals_model.specs.ComponentInputs.{feed_names, root_inputs}
use Rattle.pals_model.specs.DesignRules.{IsDesign, IsLink, IsFeed}
use Rattle.pals_model.proofs.FirstMatches.{at_element}
use Rattle.pals_model.proofs.RootInputsAndFeeds.{root_inputs_are_feeds}
use Rattle.pals_model.proofs.ShapeLaws.{component_at}
use Rattle.sync_product.specs.proof.RenumberedDesigns.{renumbered_link, renumbered_feed, values_of, IsRenumbered}
use Rattle.sync_product.specs.proof.RenumberedDesigns.{AreSameInputs}
use Rattle.sync_product.proofs.Pigeonhole.{Search, search_below, too_many}
use Rattle.sync_product.proofs.ImageMembers.{images_back}
use Rattle.sync_product.proofs.RenumberedDesigns.{feed_back}

-- ---- numbers
abbrev found_in : (test : ℕ → Bool) (n : ℕ) → Search test n → ℕ
found_in test n (inl found) = found.0
found_in test n (inr none) = 0

-- a number before the others
abbrev with_first : ℕ → (ℕ → ℕ) → ℕ → ℕ
with_first m to zero = m
with_first m to (suc k) = to k

module _ (to : ℕ → ℕ) (a b : DesignParts) (r : IsRenumbered to a b) where
  stays_within : (n : ℕ) → n < length a.components → to n < length a.components
  stays_within n within =
      let at = component_at a n within in
      let inside = slice_get_within b.components (to n) at.0 (r.component n within ∙ at.1) in
      omega (arith, inside, r.count)

  -- the number whose other number this is
  back : ℕ → ℕ
  back m =
      found_in (λ n. nat_eq (to n) m) (length a.components) (search_below (λ n. nat_eq (to n) m) (length a.components))

  abbrev IsBack : ℕ → ℕ → Type 0
  IsBack m n = (to n ≡ m) × (n < length a.components)

  back_by : (m : ℕ) → m < length a.components → (s : Search (λ n. nat_eq (to n) m) (length a.components))
      → IsBack m (found_in (λ n. nat_eq (to n) m) (length a.components) s)
  back_by m within (inl found) = (eqb-true (to found.0) m found.2, found.1)
  back_by m within (inr none) = absurd (too_many (with_first m to) (length a.components) below apart)
    where
      below : (k : ℕ) → k < suc (length a.components) → with_first m to k < length a.components
      below zero inside = within
      below (suc k) inside = stays_within k (omega arith)

      apart : (i j : ℕ) → i < j → j < suc (length a.components) → with_first m to i ≢ with_first m to j
      apart i zero less inside = absurd (omega arith)
      apart zero (suc j) less inside = λ same. true≢false (sym (eq-eqb (to j) m (sym same)) ∙ none j (omega arith))
      apart (suc i) (suc j) less inside = λ same. let one = r.one_each i j (omega arith) (omega arith) same in
          omega (arith, one, less)

  back_is : (m : ℕ) → m < length a.components → IsBack m (back m)
  unfolding back
  back_is m within = back_by m within (search_below (λ n. nat_eq (to n) m) (length a.components))

  back_to : (n : ℕ) → n < length a.components → back (to n) ≡ n
  back_to n within =
      let is = back_is (to n) (stays_within n within) in
      r.one_each (back (to n)) n is.1 within is.0

  module _ (sound : IsDesign a) where
    -- ---- links and feeds
    link_again : (l : ℕ) (link : Link) → slice_get a.links l ≡ Some link
        → renumbered_link back (renumbered_link to link) ≡ link
    link_again l link is =
        let rules = at_element (IsLink a) a.links l link sound.links.each is in
        ap₂ (λ source target. let other : Link =
        record link { source = record { 0 = source }; target = record { 0 = target } } in other)
        (back_to link.source.0 rules.source.node_is) (back_to link.target.0 rules.target.node_is)

    feed_again : (f : ℕ) (feed : Feed) → slice_get a.feeds f ≡ Some feed
        → renumbered_feed back (renumbered_feed to feed) ≡ feed
    feed_again f feed is =
        let rules = at_element (IsFeed a) a.feeds f feed sound.feeds.each is in
        ap (λ target. let other : Feed = record feed { target = record { 0 = target } } in other)
        (back_to feed.target.0 rules.target.node_is)

    -- ---- the whole
    within_a : (n : ℕ) → n < length b.components → n < length a.components
    within_a n within = omega (arith, within, r.count)

    goes_back : IsRenumbered back b a
    goes_back = record {
      period = sym r.period;
      gamma = sym r.gamma;
      count = sym r.count;
      component =
          λ n within. (let is = back_is n (within_a n within) in
          sym (r.component (back n) is.1) ∙ ap (slice_get b.components) is.0);
      one_each =
          λ m n first second same. sym (back_is m (within_a m first)).0 ∙ ap to same
          ∙ (back_is n (within_a n second)).0;
      links = images_back (renumbered_link to) a.links b.links r.links (renumbered_link back) link_again;
      feeds = images_back (renumbered_feed to) a.feeds b.feeds r.feeds (renumbered_feed back) feed_again;
    }

    pub undone : (from : ℕ → ℕ) × IsRenumbered from b a × ((n : ℕ) → n < length a.components → from (to n) ≡ n)
    undone = (back, goes_back, back_to)

  -- ---- inputs
  root_of_both : (name : List ℕ) → Contains (root_inputs b) name → Contains (root_inputs a) name
  root_of_both name is =
      let among = (root_inputs_are_feeds b name).0 is in
      let fed =
      slice_get-map_parts (λ (f : Feed). f.name) b.feeds among.0 name
      (slice_get-from_Contains (feed_names b) name among) in
      let first = feed_back to a b r among.0 fed.0 fed.1 in
      let feed : Feed = first.1 in
      let named =
      Contains-from_slice_get (feed_names a) first.0 feed.name
      (slice_get-map_some (λ (f : Feed). f.name) a.feeds first.0 feed first.2) in
      subst (Contains (root_inputs a)) (ap (λ (f : Feed). f.name) first.3 ∙ fed.2)
      ((root_inputs_are_feeds a feed.name).1 named)

  pub same_inputs_back : (env_a env_b : Env) → AreSameInputs a b env_a env_b → AreSameInputs b a env_b env_a
  same_inputs_back env_a env_b inputs k d within =
      let name = get_or (root_inputs b) k d in
      sym (All-contains (λ n. values_of b env_b n ≡ values_of a env_a n) (root_inputs a) name inputs
      (root_of_both name (Contains-get_or (root_inputs b) k d within)))
