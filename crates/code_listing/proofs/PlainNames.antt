-- The names of a design are plain words.
use Rattle.std.proofs.Common.{◌≡◌, ℕ, ◌-◌, true, List, ◌++◌, length, map, Option, Some, None, slice_get, All, refl, sym}
use Rattle.std.proofs.Common.{◌∙◌}
use Rattle.std.specs.List.{list_all}
use Rattle.std.proofs.lemmas.Bool.{and_parts}
use Rattle.std.proofs.lemmas.List.Elements.{All-weaker}
use Rattle.std.proofs.lemmas.List.Folds.{list_all-append, list_all-map}
use Rattle.pals_base.specs.declared.behaviour.PortDecl.{PortDecl}
use Rattle.pals_base.specs.declared.behaviour.VarDecl.{VarDecl}
use Rattle.pals_base.specs.declared.behaviour.StateDecl.{StateDecl}
use Rattle.pals_base.specs.declared.behaviour.BehaviourParts.{BehaviourParts}
use Rattle.pals_base.specs.Names.{is_word}
use Rattle.pals_base.specs.BehaviourRules.{IsBehaviour, has_word}
use Rattle.pals_model.specs.ComponentAndLinkNames.{port_name}
use Rattle.pals_model.specs.RoundTexts.{state_name}
use Rattle.pals_model.proofs.FirstMatches.{at_element}
use Rattle.pals_model.proofs.WordBytes.{all_pass, word_inner}
use Rattle.code_listing.specs.Listings.{slot_word, slot_name}
use Rattle.code_listing.proofs.LinesAndWords.{is_plain, decimal_plain}

-- ---- names that a behaviour declares
pub record HasPlainNames (b : BehaviourParts) : Type 0 where
  pub ins : All (λ (p : PortDecl). is_plain p.name ≡ true) b.ins
  pub outs : All (λ (p : PortDecl). is_plain p.name ≡ true) b.outs
  pub vars : All (λ (v : VarDecl). is_plain v.name ≡ true) b.vars
  pub states : All (λ (s : StateDecl). is_plain s.name ≡ true) b.states

plain_in : {X : Type 0} (name : X → List ℕ) (xs : List X) → list_all is_word (map name xs) ≡ true
    → All (λ x. is_plain (name x) ≡ true) xs
plain_in name xs words =
    All-weaker (λ x. is_word (name x) ≡ true) (λ x. is_plain (name x) ≡ true) (λ x is. word_inner (name x) is) xs
    (all_pass (λ x. is_word (name x)) xs (sym (list_all-map is_word name xs) ∙ words))

pub names_are_plain : (b : BehaviourParts) → IsBehaviour b → HasPlainNames b
names_are_plain b rules =
    let ins = map (λ (p : PortDecl). p.name) b.ins in
    let outs = map (λ (p : PortDecl). p.name) b.outs in
    let vars = map (λ (v : VarDecl). v.name) b.vars in
    let values =
    and_parts (list_all is_word (ins ++ outs)) (list_all is_word vars)
    (sym (list_all-append is_word (ins ++ outs) vars) ∙ rules.names.values) in
    let ports =
    and_parts (list_all is_word ins) (list_all is_word outs) (sym (list_all-append is_word ins outs) ∙ values.0) in
    record {
      ins = plain_in (λ (p : PortDecl). p.name) b.ins ports.0;
      outs = plain_in (λ (p : PortDecl). p.name) b.outs ports.1;
      vars = plain_in (λ (v : VarDecl). v.name) b.vars values.1;
      states =
          All-weaker (λ (s : StateDecl). has_word s ≡ true) (λ (s : StateDecl). is_plain s.name ≡ true)
          (λ s is. word_inner s.name is) b.states (all_pass has_word b.states rules.names.states);
    }

-- ---- names that numbers have
pub port_plain : (ports : List PortDecl) (port : ℕ) → All (λ (p : PortDecl). is_plain p.name ≡ true) ports
    → is_plain (port_name (slice_get ports port)) ≡ true
port_plain ports port plain = by (slice_get ports port) refl
  where
    by : (o : Option PortDecl) → slice_get ports port ≡ o → is_plain (port_name o) ≡ true
    by None is = refl
    by (Some p) is = at_element (λ (q : PortDecl). is_plain q.name ≡ true) ports port p plain is

pub state_plain : (states : List StateDecl) (state : ℕ) → All (λ (s : StateDecl). is_plain s.name ≡ true) states
    → is_plain (state_name (slice_get states state)) ≡ true
state_plain states state plain = by (slice_get states state) refl
  where
    by : (o : Option StateDecl) → slice_get states state ≡ o → is_plain (state_name o) ≡ true
    by None is = refl
    by (Some s) is = at_element (λ (t : StateDecl). is_plain t.name ≡ true) states state s plain is

pub slot_plain : (vars : List VarDecl) (slot : ℕ) → All (λ (v : VarDecl). is_plain v.name ≡ true) vars
    → is_plain (slot_name vars slot) ≡ true
slot_plain vars slot plain = by (slice_get vars slot) refl
  where
    by : (o : Option VarDecl) → slice_get vars slot ≡ o → is_plain (slot_word o (slot - length vars)) ≡ true
    by None is = decimal_plain (slot - length vars)
    by (Some v) is = at_element (λ (w : VarDecl). is_plain w.name ≡ true) vars slot v plain is
