use Rattle.gm_tool.proofs.Stopping.{book_stopped}
use Rattle.gm_tool.proofs.book.read.Goals as goal

pub returns-in-Err-clause-stop : goal.returns-in-Err-clause-stop
returns-in-Err-clause-stop c = book_stopped c.args.bytes.now c.book_line.result c.because.result c.in-Err.fault c.in-Err.ensures.fault c.book_line.ensures c.because.ensures
