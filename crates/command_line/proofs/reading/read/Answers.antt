use Rattle.std.proofs.Common.{◌<◌, ◌^◌, arith, length, map, rules, string_bytes}
use Rattle.std.proofs.lemmas.List.{length-map}
use Rattle.std.proofs.lemmas.Result.{IfOk-weaker}
use Rattle.command_line.proofs.ProgramWords.{asked_are_met, asks_some, has_read, only_memory, plain_asked, plain_enough, plain_named}
use Rattle.command_line.proofs.reading.read.Goals as goal

pub returns-in-Ok-clause-asked : goal.returns-in-Ok-clause-asked
returns-in-Ok-clause-asked c =
    let read = has_read _ (map string_bytes c.args.list.now) c.in-Ok.matches c.in_ok-program.ensures c.in-Ok.ensures.kinds c.in-Ok.ensures.matches in
    IfOk-weaker c.choose.result _ _ (λ words met. asked_are_met _ _ words read met) c.choose.ensures.met

pub returns-in-Ok-clause-plain : goal.returns-in-Ok-clause-plain
returns-in-Ok-clause-plain c subcommand files plain =
    let words = map string_bytes c.args.list.now in
    let read = has_read _ words c.in-Ok.matches c.in_ok-program.ensures c.in-Ok.ensures.kinds c.in-Ok.ensures.matches in
    IfOk-weaker c.choose.result _ _ (λ w met. plain_asked subcommand words files plain w (asked_are_met words c.in-Ok.matches w read met)) c.choose.ensures.met

pub returns-in-Ok-clause-taken : goal.returns-in-Ok-clause-taken
returns-in-Ok-clause-taken c subcommand plain =
    let words = map string_bytes c.args.list.now in
    let read = has_read _ words c.in-Ok.matches c.in_ok-program.ensures c.in-Ok.ensures.kinds c.in-Ok.ensures.matches in
    let given = asks_some subcommand words plain in
    c.choose.ensures.taken subcommand (plain_named subcommand words given.0 given.1 c.in-Ok.matches read)
    (plain_enough subcommand words given.0 given.1 c.in-Ok.matches read)

pub returns-in-Err-clause-taken : goal.returns-in-Err-clause-taken
returns-in-Err-clause-taken c subcommand plain =
    let words = map string_bytes c.args.list.now in
    let short : length c.args.list.now < 2 ^ 64 = search rules in
    let same = length-map c.args.list.now string_bytes in
    let given = asks_some subcommand words plain in
    c.refusal.ensures.memory (only_memory _ subcommand words given.0 c.in-Err.error c.in_ok-program.ensures given.1 (omega (arith, short, same)) c.in-Err.ensures.kinds)
