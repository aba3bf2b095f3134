-- The symbols of the grammar, which are the entries of the machine's stack; the classes of terminals; and the rows of
-- the parse table.
use Rattle.std.specs.Prelude.{List}
use Rattle.aadl_tree.specs.declared.mark.Mark.{Mark}

-- a class of terminals; the content of a word or a number makes no difference
pub data Class : Type 0 where
  a_word : Class
  a_whole : Class
  a_real : Class
  a_quoted : Class
  an_unread : Class
  the : Mark → Class

pub data Symbol : Type 0 where
  -- one keyword or symbol
  only : Mark → Symbol
  -- names
  identifier : Symbol
  name : Symbol
  names : Symbol
  path : Symbol
  paths : Symbol
  more_identifiers : Symbol
  reference : Symbol
  dot_identifier : Symbol
  -- values
  figure : Symbol
  unit : Symbol
  quantity : Symbol
  upper : Symbol
  value : Symbol
  path_group : Symbol
  reference_group : Symbol
  values : Symbol
  more_values : Symbol
  operator : Symbol
  constant : Symbol
  applies : Symbol
  more_paths : Symbol
  association : Symbol
  associations : Symbol
  properties : Symbol
  -- expressions
  primary : Symbol
  fresh : Symbol
  factor : Symbol
  term : Symbol
  factors : Symbol
  sum : Symbol
  terms : Symbol
  compared : Symbol
  relation : Symbol
  relations : Symbol
  after_and : Symbol
  after_or : Symbol
  expression : Symbol
  -- actions
  test : Symbol
  whole_number : Symbol
  bound : Symbol
  after_target : Symbol
  loop_head : Symbol
  action : Symbol
  actions : Symbol
  mores : Symbol
  after_semicolon : Symbol
  elsifs : Symbol
  otherwise : Symbol
  end_if : Symbol
  closing_if : Symbol
  block : Symbol
  body : Symbol
  -- annexes
  variable : Symbol
  variable_list : Symbol
  variables : Symbol
  initial : Symbol
  complete : Symbol
  state : Symbol
  state_list : Symbol
  states : Symbol
  guard : Symbol
  guarded : Symbol
  after_word : Symbol
  effect : Symbol
  transition : Symbol
  transition_list : Symbol
  transitions : Symbol
  content : Symbol
  annex : Symbol
  annexes : Symbol
  -- declarations
  direction : Symbol
  category : Symbol
  data_type : Symbol
  feature : Symbol
  feature_list : Symbol
  feature_section : Symbol
  features : Symbol
  subcomponent : Symbol
  subcomponent_list : Symbol
  subcomponent_section : Symbol
  subcomponents : Symbol
  connection_end : Symbol
  connection : Symbol
  connection_list : Symbol
  connection_section : Symbol
  connections : Symbol
  property_section : Symbol
  own_properties : Symbol
  implementation_name : Symbol
  type_end : Symbol
  implementation_end : Symbol
  package_end : Symbol
  after_category : Symbol
  declarations : Symbol
  more_names : Symbol
  withs : Symbol
  a_package : Symbol

-- one way in which a symbol begins: a terminal of the class, and the symbols expected after it
pub record Row : Type 0 where
  pub first : Class
  pub wanted : List Symbol
