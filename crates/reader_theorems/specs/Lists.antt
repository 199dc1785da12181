-- A list of calls on one reader, each on the reader as the call before returned it. What a call gives is `serve`, which the contracts
-- of `piece` and `close` promise.
use Rattle.std.specs.Prelude.{ℕ, ◌+◌, List, [], ◌∷◌, ◌++◌}
use Rattle.framing.specs.declared.Format.{Format}
use Rattle.reader.specs.declared.Reader.{Reader as State}
use Rattle.reader.specs.Calls.{Call, serve}
use Rattle.reader_theorems.specs.Machine.{Machine, next_machine, handed}

-- the answers
unfoldable pub answers : State → List Call → List ℕ
answers r [] = []
answers r (c ∷ cs) = (serve r c).outcome.answer ∷ answers (serve r c).outcome.reader cs

-- the reader after the list
unfoldable pub final_reader : State → List Call → State
final_reader r [] = r
final_reader r (c ∷ cs) = final_reader (serve r c).outcome.reader cs

-- how many frames the calls say that they handed out
unfoldable pub frame_total : State → List Call → ℕ
frame_total r [] = 0
frame_total r (c ∷ cs) = (serve r c).outcome.frames + frame_total (serve r c).outcome.reader cs

-- The bytes handed out, joined call after call: of each output as the reader's call returns it, as many as the machine says.
unfoldable pub handed_out : Format → Machine → State → List Call → List ℕ
handed_out f m r [] = []
handed_out f m r (c ∷ cs) = handed f m c (serve r c).out ++ handed_out f (next_machine f m c) (serve r c).outcome.reader cs
