-- The laws of the crates below.
use Rattle.mj_classes.specs.Chains.{ancestry}
use Rattle.mj_classes.specs.Members.{own_field, own_method, FieldOf, MethodOf}
use Rattle.mj_members.specs.Tables.{fields_along, methods_along}
use Rattle.mj_classes.specs.Laws.{ChainLaws, MemberLaws}
use Rattle.mj_classes.proofs.Climb.{chain_of_is, is_chain_of, has_chain, has_none}
use Rattle.mj_classes.proofs.Nearest.{nearest_from_is, is_from_nearest}
use Rattle.mj_classes.proofs.Tables.{is_table}
use Rattle.mj_parser.specs.Laws.{GrammarLaws}
use Rattle.mj_parser.proofs.FileFound.{file_found}
use Rattle.mj_parser.proofs.FileAgain.{file_again}
use Rattle.mj_rules.proofs.SentenceLaws.{sentences_by}
use Rattle.mj_rules.specs.Laws.{SentenceLaw}

pub chain_laws : ChainLaws
chain_laws = record {
  given = λ cs c chain end. (chain_of_is cs c chain end, is_chain_of cs c chain end);
  declared = has_chain;
  undeclared = has_none;
}

pub member_laws : MemberLaws
unfolding fields_along methods_along
member_laws = record {
  field = λ cs c x owner f. (λ h. nearest_from_is (own_field x) cs c owner f h, λ h. is_from_nearest (own_field x) cs c owner f h);
  method = λ cs c m owner f. (λ h. nearest_from_is (own_method m) cs c owner f h, λ h. is_from_nearest (own_method m) cs c owner f h);
  fields = λ cs c. is_table (λ f. f.name) (λ k. k.fields) (ancestry cs c) (λ owner f. FieldOf cs c f.name owner f)
      (λ owner f h. is_from_nearest (own_field f.name) cs c owner f h) (λ owner f h. nearest_from_is (own_field f.name) cs c owner f h);
  methods = λ cs c. is_table (λ m. m.name) (λ k. k.methods) (ancestry cs c) (λ owner m. MethodOf cs c m.name owner m)
      (λ owner m h. is_from_nearest (own_method m.name) cs c owner m h) (λ owner m h. nearest_from_is (own_method m.name) cs c owner m h);
}

pub grammar : GrammarLaws
grammar = λ ts f. (file_again ts f, file_found ts f)

pub sentence_law : SentenceLaw
sentence_law = sentences_by grammar
