use Rattle.tandem_io.proofs.WindowLaws.{range-drop}
use Rattle.tandem_io.proofs.window.Window.skip.Goals as goal

-- the bytes after those that were given on
pub returns : goal.returns
returns c = range-drop c.args.self.now.bytes c.args.self.now.start c.args.n c.args.self.now.end
