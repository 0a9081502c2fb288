use Rattle.std.proofs.Common.{ap, ◌∙◌, Some}
use Rattle.std.specs.Prelude.{option_map}
use Rattle.text_queries.specs.NamedHeaders.{class_header}
use Rattle.text_queries.proofs.header.header_among.Goals as goal

pub returns-in_ok-header_of_class-in-Some : goal.returns-in_ok-header_of_class-in-Some
returns-in_ok-header_of_class-in-Some c = ap Some c.in_ok-header_of_class-in-Some.ensures ∙ ap (option_map class_header) c.in-Some.ensures

pub returns-in-None : goal.returns-in-None
returns-in-None c = ap (option_map class_header) c.in-None.ensures
