-- Words of the job alone. No clause of the program's call cites them.
pub mod Marks
pub mod Running
