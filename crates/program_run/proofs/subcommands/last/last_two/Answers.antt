use Rattle.std.proofs.Common.{◌∙◌, length, map, refl, string_bytes}
use Rattle.std.proofs.lemmas.List.{length-map}
use Rattle.program_run.proofs.Taking.{as_many}
use Rattle.program_run.proofs.subcommands.last.last_two.Goals as goal

pub returns-clause-last : goal.returns-clause-last
returns-clause-last g c =
    let read = c.in_ok-read_files.field-0.items in
    let many = as_many (λ file. string_bytes file.0) string_bytes read c.args.names.items (length read) _ refl c.args.names.ok.0 c.in_ok-read_files.ensures.named in
    record {
      files = map (λ file. file.1.items) read;
      are_many = length-map read (λ file. file.1.items) ∙ many;
      read = c.in_ok-read_files.ensures.read;
      last = rw c.in-Some.is at c.in_ok-pair.ensures.last;
    }
