use Rattle.engine_faults.proofs.fault_lines.line_of.Goals as goal

pub returns : goal.returns
returns g c = (c.write.new.self.line, c.write.new.self.whole, c.push.ensures.bytes)
