-- The canonical text of a tree parses to the same tree, except for its places: the law `canonical_text_is_read_back`.
use Rattle.std.proofs.Common.{◌≡◌, ◌∙◌, ℕ, ◌<◌, Bool, false, sym, ap, subst, refl, List, [], ◌∷◌, length, arith}
use Rattle.std.proofs.lemmas.List.{append-nil}
use Rattle.aadl_lex.specs.declared.token.Token.{Token}
use Rattle.aadl_lex.specs.declared.rules.Reading.TheVariants.{Outside}
use Rattle.aadl_lex.specs.TokensAndFirstFaults.{AreInOrder}
use Rattle.aadl_lex.proofs.TokenOrder.{order_lexes}
use Rattle.aadl_lex.proofs.UniqueTokens.{lexes_one}
use Rattle.aadl_tree.specs.declared.mark.Mark.TheVariants as k
use Rattle.aadl_tree.specs.Terminals.{PlainTerminal, mark, inside_behind, spots_from, placed_terminals, kinds_of}
use Rattle.aadl_tree.specs.SpellingParts.{Spells, Written, kept}
use Rattle.aadl_tree.specs.Declarations.{PackageTree, package_parts}
use Rattle.aadl_tree.specs.proof.PlaceMaps.{package_to, no_place}
use Rattle.aadl_tree.specs.PackagesBehavioursAndNesting.{IsShallow}
use Rattle.aadl_tree.specs.TextTreesAndFaults.{IsTreeOf}
use Rattle.aadl_tree.specs.CanonicalText.{canon, canonical}
use Rattle.aadl_tree.proofs.SpellingParts.{written_spells, kept_spells}
use Rattle.aadl_grammar.specs.proof.StackMachine.{whole_package}
use Rattle.aadl_grammar.specs.proof.PlaceOrder.{Behind, Rising}
use Rattle.aadl_grammar.proofs.PlaceIndependence.AlikeParts.{alike_kept}
use Rattle.aadl_grammar.proofs.PlaceIndependence.Declarations.{package_alike}
use Rattle.aadl_grammar.proofs.DerivationTrees.DerivationsAndMachineSteps.{Derives}
use Rattle.aadl_grammar.proofs.UniquePlacedTrees.OneTreeWithPlaces.{one_placed_package}
use Rattle.aadl_grammar.proofs.UniquePlacedTrees.TreesFromKeptTerminals.{same_package}
use Rattle.aadl_grammar.proofs.Fates.GrammarLanguages.{packages}
use Rattle.aadl_grammar.specs.proof.CanonicalRoundTrip.{HasSameTree}
use Rattle.aadl_grammar.proofs.PackageAdjacency.{neighbours}
use Rattle.aadl_grammar.proofs.CanonicalTextNesting.{kept_shallow}
use Rattle.aadl_grammar.proofs.PossibleTerminals.{ArePossibleTerminals, kept_said}
use Rattle.aadl_grammar.proofs.CanonicalTextLexing.{outer}
use Rattle.aadl_grammar.proofs.PossibleLexedTerminals.{text_terminals_possible}
use Rattle.aadl_grammar.proofs.CanonicalUtf8.{text_utf8}

-- tokens in order are after every position before the first one
all_behind : (inside : Bool) (text : List ℕ) (n from to : ℕ) (ts : List Token) → n < from → AreInOrder from to ts
    → Behind n (spots_from inside text ts)
all_behind inside text n from to [] less order = tt
all_behind inside text n from to (t ∷ ts) less (start, some, order) =
    ((omega arith), all_behind (inside_behind inside t.kind) text n t.end to ts (omega arith) order)

rising : (inside : Bool) (text : List ℕ) (from to : ℕ) (ts : List Token) → AreInOrder from to ts
    → Rising (spots_from inside text ts)
rising inside text from to [] order = tt
rising inside text from to (t ∷ ts) (start, some, order) = (
  all_behind (inside_behind inside t.kind) text t.start t.end to ts some order,
  rising (inside_behind inside t.kind) text t.end to ts order,
)

derived : (tree : PackageTree ℕ) (ks : List PlainTerminal) → Spells (package_parts tree) ks []
    → Derives whole_package ks
derived tree ks s = packages.derived ks (record { tree = tree; spelled = s })

-- the canonical text does not depend on places
pub canon_of : (tree : PackageTree ℕ) → canon (package_to no_place tree) ≡ canon tree
canon_of tree = sym (ap canonical (alike_kept (package_alike no_place tree)))

-- a text has one tree, so its canonical text has no other
pub no_other : (text : List ℕ) (tree other : PackageTree ℕ) → IsTreeOf text tree → IsTreeOf text other → tree ≡ other
no_other text tree other h g =
    let tokens = lexes_one Outside text 0 h.tokens g.tokens h.lexed.lexed g.lexed.lexed in
    one_placed_package (placed_terminals text h.tokens) tree other h.written
    (subst (λ (ts : List Token). Written (package_parts other) (placed_terminals text ts) []) (sym tokens) g.written)

pub reads_back : (text : List ℕ) (tree : PackageTree ℕ) → IsTreeOf text tree
    → HasSameTree (canon tree) (package_to no_place tree)
reads_back text tree h =
    let parts = package_parts tree in
    let first = kinds_of (placed_terminals text h.tokens) in
    let spelled : Spells parts first [] = written_spells parts (placed_terminals text h.tokens) [] h.written in
    let near = neighbours first (derived tree first spelled) in
    let said : ArePossibleTerminals Outside (kept parts) =
    kept_said parts 0 Outside first spelled near (text_terminals_possible text h.tokens h.lexed) in
    let again : Spells parts (kept parts) [] =
    subst (λ (l : List PlainTerminal). Spells parts l []) (append-nil (kept parts)) (kept_spells parts []) in
    let beside = neighbours (kept parts) (derived tree (kept parts) again) in
    let lexed = outer (mark k.ParenOpen) (kept parts) Outside (canon tree) 0 refl (refl, beside.1) said refl in
    let order = order_lexes Outside text 0 h.tokens (omega arith) h.lexed.lexed in
    let moved =
    same_package tree (placed_terminals text h.tokens) (placed_terminals (canon tree) lexed.tokens) h.written
    (rising false text 0 (length text) h.tokens order) lexed.kinds in
    let shallow = kept_shallow 0 parts first spelled h.shallow in
    record {
      tree = moved.tree;
      read = record {
        tokens = lexed.tokens;
        lexed = record { utf8 = text_utf8 Outside (mark k.ParenOpen) (kept parts) said; lexed = lexed.lexes };
        written = moved.written;
        shallow = subst (IsShallow 0) (sym lexed.kinds) shallow;
      };
      same = moved.same;
    }

pub only_so : (text : List ℕ) (tree again : PackageTree ℕ) → IsTreeOf text tree → IsTreeOf (canon tree) again
    → package_to no_place again ≡ package_to no_place tree
only_so text tree again h g =
    let read = reads_back text tree h in
    ap (package_to no_place) (no_other (canon tree) again read.tree g read.read) ∙ read.same
