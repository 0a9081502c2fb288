use Rattle.std.proofs.Common.{◌∙◌, List, None, Some, slice_get, sym, ap}
use Rattle.named_files.specs.Projects.{SourceFile}
use Rattle.diagnostic_lines.specs.FaultLines.{file_named}
use Rattle.std.specs.Str.{bytes_eq}
use Rattle.mj_tree.proofs.Positions.{find_from_position}
use Rattle.diagnostic_lines.proofs.texts.Texts.named.Goals as goal

pub returns-in_err-number : goal.returns-in_err-number
returns-in_err-number c =
    rw (c.from_residual.ensures, ← c.self.view_is) (sym (find_from_position (λ f. bytes_eq f.name c.args.name.now) c.self.inside.texts.items None (sym (c.self.invariant c.args.name.now) ∙ sym c.in_err-number.ensures.value)))

pub returns : goal.returns
returns c =
    c.get-2.ensures ∙ (ap (λ (fs : List SourceFile). slice_get fs c.in_ok-number.field-0.now) (sym c.self.view_is) ∙ (sym (find_from_position (λ f. bytes_eq f.name c.args.name.now) c.self.inside.texts.items (Some c.in_ok-number.field-0.now) (sym (c.self.invariant c.args.name.now) ∙ sym c.in_ok-number.ensures.value)) ∙ ap (λ (fs : List SourceFile). file_named fs c.args.name.now) c.self.view_is))
