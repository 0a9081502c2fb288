use Rattle.std.proofs.Common.{◌≡◌, refl, inl, inr}
use Rattle.std.specs.Prelude.{◌≢◌, ◌⊎◌, List}
use Rattle.named_files.specs.Projects.{SourceFile, sources_view, IsProject, Refuses}
use Rattle.named_files.specs.declared.project.ProjectFault.{ProjectFault}
use Rattle.named_files.specs.declared.project.ProjectFault.TheVariants.{OutOfMemory}
use Rattle.std.proofs.lemmas.Result.{err_from_is_err_and}
use Rattle.named_files.proofs.ProjectLemmas.{project_refuses, one_refusal}
use Rattle.named_files.proofs.project.Project.new.Goals as goal

accepts_by : (files : List SourceFile) (fault : ProjectFault) → (fault ≡ OutOfMemory) ⊎ Refuses files fault → IsProject files → fault ≡ OutOfMemory
accepts_by files fault (inl memory) is = memory
accepts_by files fault (inr refuses) is = absurd (project_refuses files fault is refuses)

refused_by : (files : List SourceFile) (fault : ProjectFault) → (fault ≡ OutOfMemory) ⊎ Refuses files fault → fault ≢ OutOfMemory → Refuses files fault
refused_by files fault (inl memory) other = absurd (other memory)
refused_by files fault (inr refuses) other = refuses

refuses_by : (files : List SourceFile) (fault other : ProjectFault) → (fault ≡ OutOfMemory) ⊎ Refuses files fault → Refuses files other → (fault ≡ other) ⊎ (fault ≡ OutOfMemory)
refuses_by files fault other (inl memory) h = inr memory
refuses_by files fault other (inr refuses) h = inl (one_refusal files fault other refuses h)

pub returns-in_err-check_files-clause-accepts : goal.returns-in_err-check_files-clause-accepts
returns-in_err-check_files-clause-accepts c =
    let p = err_from_is_err_and c.from_residual.result c.from_residual.ensures.1 in
    rw (p.1, p.2, ← c.deref.ensures.value) (accepts_by (sources_view c.deref.result.now) c.in_err-check_files.field-0.0 c.in_err-check_files.ensures)

pub returns-in_err-check_files-clause-refused : goal.returns-in_err-check_files-clause-refused
returns-in_err-check_files-clause-refused c =
    let p = err_from_is_err_and c.from_residual.result c.from_residual.ensures.1 in
    rw (p.1, p.2, ← c.deref.ensures.value) (refused_by (sources_view c.deref.result.now) c.in_err-check_files.field-0.0 c.in_err-check_files.ensures)

pub returns-in_err-check_files-clause-refuses : goal.returns-in_err-check_files-clause-refuses
returns-in_err-check_files-clause-refuses c =
    let p = err_from_is_err_and c.from_residual.result c.from_residual.ensures.1 in
    rw (p.1, p.2, ← c.deref.ensures.value) (λ other h. refuses_by (sources_view c.deref.result.now) c.in_err-check_files.field-0.0 other c.in_err-check_files.ensures h)

pub returns-clause-accepted : goal.returns-clause-accepted
returns-clause-accepted c = refl

pub returns-clause-refuses : goal.returns-clause-refuses
returns-clause-refuses c = rw (← c.deref.ensures.value) (λ fault h. project_refuses (sources_view c.deref.result.now) fault c.in_ok-check_files.ensures h)
