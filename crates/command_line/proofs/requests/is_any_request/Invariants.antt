use Rattle.std.proofs.Common.{◌≡◌, drop, map, string_bytes}
use Rattle.command_line.specs.Requests.{has_request}
use Rattle.command_line.proofs.requests.is_any_request.Given as goal

-- the arguments so far are no requests, so that it depends on the others
abbrev pub invariant-loop-word : goal.invariant-loop-word
invariant-loop-word l = has_request (map string_bytes l.words) ≡ has_request (map string_bytes (drop l.word-index l.words))
