-- Each listed keyword can occur: a route through the table to it, outside and inside annexes.
use Rattle.std.proofs.Common.{◌≡◌, ℕ, Bool, true, ◌&&◌, List, [], ◌∷◌, refl}
use Rattle.std.specs.Prelude.{Contains}
use Rattle.std.specs.List.{list_all}
use Rattle.std.specs.Cmp.{first_so, second_so}
use Rattle.list_lemmas.proofs.Elements.{passes_by_list_all}
use Rattle.aadl_tree.specs.declared.mark.Mark.{Mark}
use Rattle.aadl_tree.specs.declared.mark.Mark.TheVariants as k
use Rattle.aadl_tree.specs.KeywordsAndSymbols.{keywords_outside, keywords_inside}
use Rattle.aadl_grammar.specs.proof.GrammarSymbols.{Symbol}
use Rattle.aadl_grammar.specs.proof.StackMachine.{whole_package, annex_body}
use Rattle.aadl_grammar.specs.proof.ReachableKeywords.{is_word, CanCome}
use Rattle.aadl_grammar.proofs.RoutesToKeywords.{Turn, Way, leads_to, comes}

turn : ℕ → ℕ → Turn
turn by to = record { by = by; to = to }

way : ℕ → List Turn → ℕ → Way
way first turns row = record { first = first; turns = turns; row = row }

way_outside : Mark → Way
unfolding turn way
way_outside k.Public = way 0 (turn 0 1 ∷ []) 0
way_outside k.With = way 0 (turn 0 2 ∷ []) 0
way_outside k.End = way 0 (turn 0 4 ∷ []) 0
way_outside k.System = way 0 (turn 0 3 ∷ []) 0
way_outside k.Process = way 0 (turn 0 3 ∷ []) 1
way_outside k.Thread = way 0 (turn 0 3 ∷ []) 2
way_outside k.Features = way 0 (turn 0 3 ∷ turn 0 0 ∷ turn 0 0 ∷ []) 0
way_outside k.Properties = way 0 (turn 0 3 ∷ turn 0 0 ∷ turn 0 1 ∷ []) 0
way_outside k.Implementation = way 0 (turn 0 3 ∷ turn 0 0 ∷ []) 1
way_outside k.Subcomponents = way 0 (turn 0 3 ∷ turn 0 0 ∷ turn 1 1 ∷ []) 0
way_outside k.Connections = way 0 (turn 0 3 ∷ turn 0 0 ∷ turn 1 2 ∷ []) 0
way_outside k.Nothing = way 0 (turn 0 3 ∷ turn 0 0 ∷ turn 0 0 ∷ turn 0 0 ∷ []) 0
way_outside k.In = way 0 (turn 0 3 ∷ turn 0 0 ∷ turn 0 0 ∷ turn 0 0 ∷ turn 1 1 ∷ []) 0
way_outside k.Out = way 0 (turn 0 3 ∷ turn 0 0 ∷ turn 0 0 ∷ turn 0 0 ∷ turn 1 1 ∷ []) 1
way_outside k.Data = way 0 (turn 0 3 ∷ turn 0 0 ∷ turn 0 0 ∷ turn 0 0 ∷ turn 1 2 ∷ []) 0
way_outside k.Port = way 0 (turn 0 3 ∷ turn 0 0 ∷ turn 0 0 ∷ turn 0 0 ∷ turn 1 3 ∷ []) 0
way_outside k.Annex = way 0 (turn 0 3 ∷ turn 0 0 ∷ turn 0 2 ∷ []) 0
way_outside k.Constant = way 0 (turn 0 3 ∷ turn 0 0 ∷ turn 0 1 ∷ turn 0 0 ∷ turn 1 2 ∷ []) 0
way_outside k.Applies = way 0 (turn 0 3 ∷ turn 0 0 ∷ turn 0 1 ∷ turn 0 0 ∷ turn 1 4 ∷ []) 0
way_outside k.To = way 0 (turn 0 3 ∷ turn 0 0 ∷ turn 0 1 ∷ turn 0 0 ∷ turn 1 4 ∷ turn 0 0 ∷ []) 0
way_outside k.Reference = way 0 (turn 0 3 ∷ turn 0 0 ∷ turn 0 1 ∷ turn 0 0 ∷ turn 1 3 ∷ []) 4
way_outside k.Classifier = way 0 (turn 0 3 ∷ turn 0 0 ∷ turn 0 1 ∷ turn 0 0 ∷ turn 1 3 ∷ []) 5
way_outside _ = way 0 [] 0

way_inside : Mark → Way
unfolding turn way
way_inside k.States = way 1 [] 0
way_inside k.Transitions = way 2 [] 0
way_inside k.Constant = way 0 (turn 0 0 ∷ turn 0 3 ∷ turn 0 0 ∷ turn 0 2 ∷ []) 0
way_inside k.Applies = way 0 (turn 0 0 ∷ turn 0 3 ∷ turn 0 0 ∷ turn 0 4 ∷ []) 0
way_inside k.To = way 0 (turn 0 0 ∷ turn 0 3 ∷ turn 0 0 ∷ turn 0 4 ∷ turn 0 0 ∷ []) 0
way_inside k.Reference = way 0 (turn 0 0 ∷ turn 0 3 ∷ turn 0 0 ∷ turn 0 3 ∷ []) 4
way_inside k.Classifier = way 0 (turn 0 0 ∷ turn 0 3 ∷ turn 0 0 ∷ turn 0 3 ∷ []) 5
way_inside k.Initial = way 1 (turn 0 0 ∷ turn 0 2 ∷ []) 0
way_inside k.Complete = way 1 (turn 0 0 ∷ turn 0 3 ∷ []) 0
way_inside k.State = way 1 (turn 0 0 ∷ turn 0 4 ∷ []) 0
way_inside k.On = way 2 (turn 0 0 ∷ turn 0 0 ∷ turn 1 0 ∷ []) 0
way_inside k.Dispatch = way 2 (turn 0 0 ∷ turn 0 0 ∷ turn 1 0 ∷ turn 0 0 ∷ []) 0
way_inside k.Otherwise = way 2 (turn 0 0 ∷ turn 0 0 ∷ turn 1 0 ∷ []) 1
way_inside k.If = way 2 (turn 0 0 ∷ turn 0 2 ∷ turn 0 0 ∷ []) 1
way_inside k.Elsif = way 2 (turn 0 0 ∷ turn 0 2 ∷ turn 0 0 ∷ turn 1 2 ∷ []) 0
way_inside k.Else = way 2 (turn 0 0 ∷ turn 0 2 ∷ turn 0 0 ∷ turn 1 3 ∷ []) 0
way_inside k.End = way 2 (turn 0 0 ∷ turn 0 2 ∷ turn 0 0 ∷ turn 1 4 ∷ []) 0
way_inside k.For = way 2 (turn 0 0 ∷ turn 0 2 ∷ turn 0 0 ∷ []) 2
way_inside k.In = way 2 (turn 0 0 ∷ turn 0 2 ∷ turn 0 0 ∷ turn 2 0 ∷ turn 0 3 ∷ []) 0
way_inside k.And = way 2 (turn 0 0 ∷ turn 0 0 ∷ turn 1 0 ∷ turn 2 3 ∷ []) 0
way_inside k.Or = way 2 (turn 0 0 ∷ turn 0 0 ∷ turn 1 0 ∷ turn 2 3 ∷ []) 1
way_inside k.Xor = way 2 (turn 0 0 ∷ turn 0 0 ∷ turn 1 0 ∷ turn 2 3 ∷ []) 2
way_inside k.Then = way 2 (turn 0 0 ∷ turn 0 0 ∷ turn 1 0 ∷ turn 2 3 ∷ turn 0 0 ∷ []) 0
way_inside k.Mod = way 2 (turn 0 0 ∷ turn 0 0 ∷ turn 1 0 ∷ turn 4 1 ∷ []) 2
way_inside k.Rem = way 2 (turn 0 0 ∷ turn 0 0 ∷ turn 1 0 ∷ turn 4 1 ∷ []) 3
way_inside k.Abs = way 2 (turn 0 0 ∷ turn 0 0 ∷ turn 1 0 ∷ []) 4
way_inside k.Not = way 2 (turn 0 0 ∷ turn 0 0 ∷ turn 1 0 ∷ []) 5
way_inside k.True = way 2 (turn 0 0 ∷ turn 0 0 ∷ turn 1 0 ∷ []) 7
way_inside k.False = way 2 (turn 0 0 ∷ turn 0 0 ∷ turn 1 0 ∷ []) 8
way_inside k.Fresh = way 2 (turn 0 0 ∷ turn 0 0 ∷ turn 1 0 ∷ turn 9 0 ∷ turn 0 0 ∷ []) 0
way_inside _ = way 0 [] 0

is_reached : List Symbol → (Mark → Way) → Mark → Bool
is_reached first ways m = is_word m && leads_to first m (ways m)

reached : (first : List Symbol) (ways : Mark → Way) (keywords : List Mark)
    → list_all (is_reached first ways) keywords ≡ true → (m : Mark) → Contains keywords m
    → (is_word m ≡ true) × CanCome first m
unfolding is_reached
reached first ways keywords e m among =
    let here = passes_by_list_all (is_reached first ways) keywords m e among in
    (first_so (is_word m) _ here, comes first m (ways m) (second_so (is_word m) _ here))

pub outside_reached : (m : Mark) → Contains keywords_outside m → (is_word m ≡ true) × CanCome whole_package m
unfolding is_reached way_outside turn way
outside_reached = reached whole_package way_outside keywords_outside refl

pub inside_reached : (m : Mark) → Contains keywords_inside m → (is_word m ≡ true) × CanCome annex_body m
unfolding is_reached way_inside turn way
inside_reached = reached annex_body way_inside keywords_inside refl
