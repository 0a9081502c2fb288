use Rattle.std.proofs.Common.{ap, ◌∙◌}
use Rattle.std.specs.Prelude.{is_some}
use Rattle.std.specs.Str.{bytes_eq}
use Rattle.result_bytes.specs.declared.files.IndexRow.{IndexRow}
use Rattle.member_queries.proofs.Listing.{place_any}
use Rattle.member_queries.proofs.supers.is_listed.Goals as goal

pub returns : goal.returns
returns c = c.is_some.ensures ∙ (ap is_some c.position_by_name.ensures ∙ place_any (λ (row : IndexRow). bytes_eq row.class c.args.class.now) c.args.rows.now)
