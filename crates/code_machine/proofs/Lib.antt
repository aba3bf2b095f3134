pub mod CodeMachine
