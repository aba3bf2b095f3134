-- The tables of a vote, item by item: the faults of a round, which components have replicas, and the replicas' names.
use Rattle.std.proofs.Common.{◌≡◌, ◌≢◌, ◌∙◌, inl, inr, ℕ, zero, suc, ◌+◌, ◌-◌, ◌<◌, ◌≤◌, Bool, true, false, cond}
use Rattle.std.proofs.Common.{nat_eq, ◌||◌, List, [], ◌∷◌, ◌++◌, length, map, take, filter, replicate, codes, decimal}
use Rattle.std.proofs.Common.{refl, sym, ap, ap₂, arith}
use Rattle.std.specs.Prelude.{slice_index_or, slice_set}
use Rattle.std.proofs.Math.Bool.{or-true, or-false}
use Rattle.std.proofs.lemmas.Bool.{cases_eq, eq-eqb, ne_eqb}
use Rattle.std.proofs.lemmas.List.{length-set, map-append, same_lists, get_or-set_same, get_or-set_other}
use Rattle.std.proofs.lemmas.List.Elements.{filter-append}
use Rattle.std.proofs.lemmas.List.Folds.{list_any_more}
use Rattle.pals_base.specs.declared.basic_types.NodeNo.{NodeNo}
use Rattle.pals_base.specs.UpwardNumbers.{upwards}
use Rattle.pals_base.proofs.UpwardNumbers.{map_upwards_more, get_or-map_upwards, length-map_upwards}
use Rattle.analysis_fields.specs.declared.replica_faults.RoundFault.{RoundFault}
use Rattle.analysis_fields.specs.ReplicasAndTheirFaults.{is_among}
use Rattle.triple_vote.specs.VotedText.{replica_name}
use Rattle.analysis_texts.specs.ReplicasAndRoundFaults.{faults_of}

-- a table with another item at a place is a table whose items are the same elsewhere
pub set_table : {A : Type 0} (f g : ℕ → A) (n at : ℕ) (x : A) → (at < n → x ≡ g at) → ((k : ℕ) → k ≢ at → f k ≡ g k)
    → slice_set (map f (upwards 0 n)) at x ≡ map g (upwards 0 n)
set_table f g n at x here others =
    let old = map f (upwards 0 n) in
    let size : length (slice_set old at x) ≡ n = length-set old at x ∙ length-map_upwards f 0 n in
    same_lists (slice_set old at x) (map g (upwards 0 n)) (size ∙ sym (length-map_upwards g 0 n))
    (λ k d within.
    let below : k < n = omega (arith, within, size) in
    elim (cases_eq k at) [
      | inl same ↦
          ap (λ j. slice_index_or (slice_set old j x) k d) (sym same)
          ∙ get_or-set_same old k x d (let wide = length-map_upwards f 0 n in omega (arith, wide, below))
          ∙ here (omega (arith, same, below)) ∙ ap g (sym same)
          ∙ sym (get_or-map_upwards g n k d below)
      | inr apart ↦ get_or-set_other old at k x d apart ∙ get_or-map_upwards f n k d below ∙ others k apart
          ∙ sym (get_or-map_upwards g n k d below)
    ])

-- ---- faults
filter_one : (f : RoundFault) (round : ℕ) (is : Bool) → nat_eq f.round round ≡ is
    → filter (λ (g : RoundFault). nat_eq g.round round) (f ∷ []) ≡ cond is (f ∷ []) []
filter_one f round is e = ap (λ b. cond b (f ∷ []) []) e

pub faults-more : (faults : List RoundFault) (f : RoundFault) (round : ℕ) (is : Bool) → nat_eq f.round round ≡ is
    → faults_of (faults ++ f ∷ []) round
    ≡ faults_of faults round ++ map (λ (g : RoundFault). g.fault) (cond is (f ∷ []) [])
faults-more faults f round is e =
    let test = λ (g : RoundFault). nat_eq g.round round in
    ap (map (λ (g : RoundFault). g.fault)) (filter-append test faults (f ∷ []))
    ∙ map-append (λ (g : RoundFault). g.fault) (filter test faults) (filter test (f ∷ []))
    ∙ ap (λ gs. faults_of faults round ++ map (λ (g : RoundFault). g.fault) gs) (filter_one f round is e)

-- ---- replicas
among-more : (nodes : List NodeNo) (i : ℕ) (d : NodeNo) (node : ℕ) → i < length nodes
    → is_among (take (i + 1) nodes) node ≡ (is_among (take i nodes) node || nat_eq (slice_index_or nodes i d).0 node)
among-more nodes i d node within = list_any_more (λ (n : NodeNo). nat_eq n.0 node) nodes i d within

pub marked_more : (nodes : List NodeNo) (i : ℕ) (d : NodeNo) (n : ℕ) (marks : List Bool) → i < length nodes
    → marks ≡ map (is_among (take i nodes)) (upwards 0 n)
    → slice_set marks (slice_index_or nodes i d).0 true ≡ map (is_among (take (i + 1) nodes)) (upwards 0 n)
marked_more nodes i d n marks within are =
    let node = (slice_index_or nodes i d).0 in
    ap (λ ms. slice_set ms node true) are
    ∙ set_table (is_among (take i nodes)) (is_among (take (i + 1) nodes)) n node true
    (λ below. sym (among-more nodes i d node within
    ∙ ap (λ b. is_among (take i nodes) node || b) (eq-eqb node node refl) ∙ or-true (is_among (take i nodes) node)))
    (λ k apart. sym (among-more nodes i d k within
    ∙ ap (λ b. is_among (take i nodes) k || b) (ne_eqb node k (λ same. apart (sym same)))
    ∙ or-false (is_among (take i nodes) k)))

marks_from : (n from : ℕ) → replicate n false ≡ map (is_among []) (upwards from n)
marks_from zero from = refl
marks_from (suc n) from = ap (λ marks. false ∷ marks) (marks_from n (suc from))

-- before the first
pub none_marked : (n : ℕ) → replicate n false ≡ map (is_among []) (upwards 0 n)
none_marked n = marks_from n 0

-- ---- names
-- one more name
pub name_more : (path : List ℕ) (counter : ℕ) (names : List (List ℕ)) (name : List ℕ) → 1 ≤ counter
    → names ≡ map (replica_name path true) (upwards 0 (counter - 1)) → name ≡ path ++ codes "#" ++ decimal counter
    → names ++ name ∷ [] ≡ map (replica_name path true) (upwards 0 (counter + 1 - 1))
name_more path counter names name first are is =
    let n = counter - 1 in
    let next : counter ≡ suc n = omega arith in
    let count : n + 1 ≡ counter + 1 - 1 = omega arith in
    ap₂ (λ ns t. ns ++ t ∷ []) are (is ∙ ap (λ k. path ++ codes "#" ++ decimal k) next)
    ∙ sym (map_upwards_more (replica_name path true) n) ∙ ap (λ k. map (replica_name path true) (upwards 0 k)) count
