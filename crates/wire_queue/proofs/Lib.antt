mod Heaped
