use Rattle.std.proofs.Common.{ℕ, Option, refl, sym, subst, ◌∙◌}
use Rattle.try_machine.specs.declared.tryers.Tryer.{Tryer}
use Rattle.try_machine.proofs.Beginning.{asking_where}
use Rattle.reclock_client.specs.declared.looks.Look.{Look}
use Rattle.reclock_client.specs.declared.operators.Operator.{Operator}
use Rattle.reclock_client.specs.Looking.{looking}
use Rattle.reclock_client.specs.Operators.{Follows}
use Rattle.reclock_client.proofs.Started.{data_ready, read_ready, remap_ready}
use Rattle.reclock_client.proofs.Owning.{data_in_turn, read_in_turn, remap_in_turn}
use Rattle.reclock_client.proofs.StartTurns.{of_reader, read_follows_on, read_opens}
use Rattle.reclock_client.proofs.operators.Operator.ready.Goals as goal

pub returns-else-busy-clause-sound : goal.returns-else-busy-clause-sound
returns-else-busy-clause-sound c = (remap_ready c.args.self.now c.start_remap_writer.new.self c.requires.sound c.requires.busy
    c.start_remap_writer.result (sym c.part.ensures ∙ c.in-RemapWriter.is) c.start_remap_writer.ensures.starts
    c.start_remap_writer.ensures.memory c.start_remap_writer.ensures.sound).sound

pub returns-else-busy-clause-course : goal.returns-else-busy-clause-course
returns-else-busy-clause-course c = (remap_ready c.args.self.now c.start_remap_writer.new.self c.requires.sound c.requires.busy
    c.start_remap_writer.result (sym c.part.ensures ∙ c.in-RemapWriter.is) c.start_remap_writer.ensures.starts
    c.start_remap_writer.ensures.memory c.start_remap_writer.ensures.sound).course

pub returns-else-busy-2-clause-sound : goal.returns-else-busy-2-clause-sound
returns-else-busy-2-clause-sound c = (read_ready c.args.self.now c.start_reader.new.self c.requires.sound c.requires.busy
    (sym c.part.ensures ∙ c.in-Reader.is) c.start_reader.ensures.starts c.start_reader.ensures.writer c.start_reader.ensures.sound).sound

pub returns-else-busy-2-clause-course : goal.returns-else-busy-2-clause-course
returns-else-busy-2-clause-course c = (read_ready c.args.self.now c.start_reader.new.self c.requires.sound c.requires.busy
    (sym c.part.ensures ∙ c.in-Reader.is) c.start_reader.ensures.starts c.start_reader.ensures.writer c.start_reader.ensures.sound).course

pub returns-else-busy-3-clause-sound : goal.returns-else-busy-3-clause-sound
returns-else-busy-3-clause-sound c = (data_ready c.args.self.now c.start_data_writer.new.self c.requires.sound c.requires.busy
    c.start_data_writer.result (sym c.part.ensures ∙ c.in-DataWriter.is) c.start_data_writer.ensures.starts
    c.start_data_writer.ensures.memory c.start_data_writer.ensures.sound).sound

pub returns-else-busy-3-clause-course : goal.returns-else-busy-3-clause-course
returns-else-busy-3-clause-course c = (data_ready c.args.self.now c.start_data_writer.new.self c.requires.sound c.requires.busy
    c.start_data_writer.result (sym c.part.ensures ∙ c.in-DataWriter.is) c.start_data_writer.ensures.starts
    c.start_data_writer.ensures.memory c.start_data_writer.ensures.sound).course

pub returns-then-is_none-clause-follows : goal.returns-then-is_none-clause-follows
returns-then-is_none-clause-follows c = λ client front h.
    subst (λ (l : Tryer Look). let y : Operator = record c.args.self.now { looker = l } in Follows client front y) (sym c.begin.ensures) (record {
      remap_writer = h.remap_writer;
      reader = h.reader;
      data_writer = h.data_writer;
      looker = asking_where Look (Option ℕ) looking c.args.self.now.looker (record {}) client front refl (λ start es. tt) h.looker;
    })

pub returns-else-busy-clause-turn : goal.returns-else-busy-clause-turn
returns-else-busy-clause-turn c = remap_in_turn c.args.self.now c.start_remap_writer.new.self c.requires.turn c.requires.busy c.requires.taken
    c.start_remap_writer.result (sym c.part.ensures ∙ c.in-RemapWriter.is) c.start_remap_writer.ensures.starts
    c.start_remap_writer.ensures.memory

pub returns-else-busy-2-clause-turn : goal.returns-else-busy-2-clause-turn
returns-else-busy-2-clause-turn c = read_in_turn c.args.self.now c.start_reader.new.self c.requires.turn c.requires.busy c.requires.taken
    (sym c.part.ensures ∙ c.in-Reader.is) c.start_reader.ensures.starts

pub returns-else-busy-2-clause-open : goal.returns-else-busy-2-clause-open
returns-else-busy-2-clause-open c = read_opens c.args.self.now c.start_reader.new.self c.args.self.now.course.step
    (of_reader c.args.self.now.course.step (sym c.part.ensures ∙ c.in-Reader.is)) refl c.start_reader.ensures.starts

pub returns-else-busy-2-clause-follows : goal.returns-else-busy-2-clause-follows
returns-else-busy-2-clause-follows c = λ client front. read_follows_on c.args.self.now c.start_reader.new.self
    c.start_reader.ensures.follows client front c.args.self.now.course.step
    (of_reader c.args.self.now.course.step (sym c.part.ensures ∙ c.in-Reader.is)) c.start_reader.ensures.starts

pub returns-else-busy-3-clause-turn : goal.returns-else-busy-3-clause-turn
returns-else-busy-3-clause-turn c = data_in_turn c.args.self.now c.start_data_writer.new.self c.requires.turn c.requires.busy c.requires.taken
    c.start_data_writer.result (sym c.part.ensures ∙ c.in-DataWriter.is) c.start_data_writer.ensures.starts
    c.start_data_writer.ensures.memory
