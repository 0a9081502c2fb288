use Rattle.std.proofs.Common.{◌∙◌, ◌-◌, find, sym, ap}
use Rattle.mj_lexer.specs.declared.token.Terminal.TheVariants as terminals
use Rattle.mj_expressions.specs.Tokens.{has}
use Rattle.mj_parser.specs.Locations.{class_end}
use Rattle.file_index.specs.Standing.{is_named}
use Rattle.file_index.proofs.Positions.{find_both}
use Rattle.file_index.proofs.methods.ClassMethods.new.Goals as goal

pub invariant_of-result : goal.invariant_of-result
invariant_of-result c = λ q.
    c.in_ok-places.ensures q
    ∙ (ap (find (is_named c.args.tokens.now q)) c.requires.all
    ∙ sym (find_both (λ at. has c.args.tokens.now at terminals.Public) (is_named c.args.tokens.now q) c.args.start (class_end c.args.tokens.now c.args.start - c.args.start)))
