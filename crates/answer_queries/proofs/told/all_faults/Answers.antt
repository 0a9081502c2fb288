use Rattle.std.specs.Option.{option_copied}
use Rattle.mj_rules.proofs.Steps.{three_parts}
use Rattle.answer_queries.specs.Told.{chain_told, header_field_faults, header_method_faults, faults_told}
use Rattle.answer_queries.proofs.told.all_faults.Goals as goal

pub returns : goal.returns
unfolding faults_told
returns c =
    three_parts (chain_told (option_copied c.args.chain)) (header_field_faults c.args.header.now c.args.undeclared.now) (header_method_faults c.args.header.now c.args.others.now)
    c.new-faults.result.items c.add_chain.new.faults.items c.add_header_fields.new.faults.items c.add_header_methods.new.faults.items
    c.new-faults.ensures.items c.in_ok-add_chain.ensures c.in_ok-add_header_fields.ensures c.in_ok-add_header_methods.ensures
