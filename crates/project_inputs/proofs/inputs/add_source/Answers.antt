use Rattle.std.proofs.Common.{◌≡◌, ◌++◌, ◌∷◌, [], ◌∙◌, ap, refl, bytes_eq}
use Rattle.indexmap.proofs.CallerLemmas.{insert_entry-new}
use Rattle.project_inputs.specs.Inputs.{bytes_in}
use Rattle.project_inputs.proofs.SourceRules.{name_missing, files_more, sources_more}
use Rattle.project_inputs.proofs.inputs.add_source.Goals as goal

entries_after : (c : goal.Joined-branch-4) → c.insert.new.self.entries ≡ c.args.sources.now.entries ++ (c.args.name.now, c.in_ok-shared.shared) ∷ []
entries_after c =
    c.in_ok-insert.ensures.entries
    ∙ rw c.in_ok-own.ensures (insert_entry-new bytes_eq c.args.sources.now c.args.name.now c.in_ok-shared.shared (name_missing c.args.sources.now.entries c.args.name.now c.requires.new))

pub returns-clause-files : goal.returns-clause-files
returns-clause-files c =
    rw (entries_after c) (rw (files_more c.args.sources.now.entries (c.args.name.now, c.in_ok-shared.shared), ap bytes_in c.in_ok-shared.ensures) refl)

pub returns-clause-sources : goal.returns-clause-sources
returns-clause-sources c =
    rw (entries_after c) (sources_more c.args.sources.now.entries (c.args.name.now, c.in_ok-shared.shared) c.requires.sources (rw c.in_ok-shared.ensures c.requires.source))
