-- What runners lean on: the laws of programs and of runs, and the rules for steps and loops.
pub use Rattle.recorder.proofs.ProgramLaws.{program_laws, programs_alike}
pub use Rattle.recorder.proofs.Whole.{run_performed}
pub use Rattle.recorder.proofs.StepRules.{ask_answered, ask_refused, halts_memory, goes_done, memory_gone, step_then, step_then_up, step_up}
pub use Rattle.recorder.proofs.LoopRules.{loop_start, loop_more, loop_up, loop_end, each_runs, each_fits, each_map}
unfoldable pub use Rattle.recorder.proofs.LoopRules.{fold_of}
pub use Rattle.recorder.proofs.Across.{between}
