pub mod Begun
pub mod CommandLemmas
pub mod NumberLemmas
pub mod ScriptLemmas
pub mod TextLemmas
pub mod WorkedScripts
