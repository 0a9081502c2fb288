-- A code for the value that contracts see.
use Rattle.std.specs.Prelude.{[]}
use Rattle.std.specs.Coded.{Coded}
use denote.Ref.{NamedLft}
use mir.Syntax.{erased}
use Rattle.mj_classes.specs.declared.declarations.Declarations.{Declarations}
use Rattle.mj_classes.specs.contracts.declarations.Declarations as contracts

-- the code of declarations goes by no lifetime
abbrev any_lifetime : NamedLft
any_lifetime = record { mir = erased; lft = [] }

abbrev pub declarations_code : Coded Declarations
declarations_code = (contracts.the_row any_lifetime).coded
